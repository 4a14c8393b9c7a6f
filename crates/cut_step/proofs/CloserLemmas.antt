-- How the set answers a step, and how the amounts close a node.
use Rattle.std.proofs.Common.{◌≡◌, ℕ, Bool, true, false, List, length, refl, arith, ◌≤◌, ◌^◌, All, slice_index, ap, sym, subst, ◌∙◌, inl, inr, map, cond}
use Rattle.std.specs.Prelude.{Option, Some, None, MatchOption, pos}
use Rattle.std.specs.List.{list_all}
use Rattle.std.proofs.lemmas.Int.{ints}
use Rattle.std.proofs.lemmas.List.{length-map, get_or_default}
use Rattle.std.proofs.Math.ListN.{get_or-map}
use lib.IntN.{ℤ}
use Rattle.offer_model.specs.Roomy.{Roomy}
use Rattle.offer_model.specs.Problems.{ProblemData, product_count}
use Rattle.offer_model.specs.LeafBounds.{multipliers_bound}
use Rattle.offer_model.specs.Validity.{is_requires}
use Rattle.limit_rules.specs.declared.kind.Kind.TheVariants as K
use Rattle.limit_rules.specs.Kinds.{kind_of}
use Rattle.limit_rules.proofs.CallerLemmas.{Closure-all}
use Rattle.linear_step.specs.Weights.{WeightsData, prices_of, AreWeights}
use Rattle.linear_step.specs.Answers.{Answers}
use Rattle.linear_step.specs.Closings.{number_bound, IsTop, Closes}
use Rattle.linear_step.specs.declared.closing.Closing.TheVariants as C
use Rattle.linear_step.proofs.CallerLemmas.{Closes-from_bound, HasShape-at}
use Rattle.offer_model.specs.declared.node.Mark.{Mark}
use Rattle.offer_model.specs.Assortments.{offers}
use Rattle.offer_model.specs.Nodes.{Clashes}
use Rattle.offer_model.proofs.SumLemmas.{int_sum_below-same}
use Rattle.cut_step.specs.declared.rows.Row.{Row}
use Rattle.cut_step.specs.declared.reach.Spot.{Spot}
use Rattle.cut_step.specs.declared.reach.Spot.TheVariants.{Free}
use Rattle.cut_step.specs.Closures.{rows_of, AreNamed, HasNoClosure, price_at, IsGreatestClosure}
use Rattle.cut_step.specs.Searches.{is_seen, seen}
use Rattle.cut_step.specs.Ready.{IsReady}
use Rattle.cut_step.specs.declared.step.ClosureStep.{ClosureStep}
use Rattle.cut_step.specs.Sizes.{FitTogether}
use Rattle.cut_step.specs.Phases.{IsImpossible, IsSolved, IsDone}
use Rattle.cut_step.proofs.CertificateLemmas.{certified_bound}
use Rattle.cut_step.proofs.ClosingLemmas.{solved_greatest, greatest_same}
use Rattle.cut_step.proofs.ProblemLemmas.{rows_named, worth_total, closure_greatest, none_feasible, amounts_fit, bound_excess}

-- The assortment of what was reached.
word_offers : (spots : List Spot) (i : ℕ) → offers (map is_seen spots) i ≡ seen spots i
word_offers spots i = get_or-map is_seen spots i Free

solved_top : (p : ProblemData) (node : List Mark) (w : WeightsData) (r : List ℤ) (us : List ℕ) (spots : List Spot) → list_all is_requires p.limits ≡ true
    → length node ≡ product_count p → length w.items ≡ product_count p → IsSolved (rows_of p.limits) node w.items r us spots
    → IsTop p (prices_of w) node (multipliers_bound p node us (prices_of w))
solved_top p node w r us spots c ln lw s =
    let x : List Bool = map is_seen spots in
    let e : length node ≡ length w.items = ln ∙ sym lw in
    let great = greatest_same (rows_of p.limits) node w.items (seen spots) (offers x) (word_offers spots) (solved_greatest (rows_of p.limits) node w.items r us spots e s) in
    let long : length x ≡ product_count p = length-map spots is_seen ∙ s.spots_each ∙ lw in
    let whole = bound_excess p node w r us c lw s.rows_each s.certified.balanced in
    let full = certified_bound (rows_of p.limits) node w.items r us (seen spots) e s.certified in
    let same = int_sum_below-same (length w.items) (λ i. cond (offers x i) (price_at w.items i) (pos 0)) (λ i. cond (seen spots i) (price_at w.items i) (pos 0))
    (λ i l. ap (λ (b : Bool). cond b (price_at w.items i) (pos 0)) (word_offers spots i)) in
    let worth = worth_total p w x lw in
    inl (x, closure_greatest p node w x c ln lw long great, omega (arith, ints, whole, full, same, worth))

impossible_top : (p : ProblemData) (node : List Mark) (w : WeightsData) (r : List ℤ) (us : List ℕ) → list_all is_requires p.limits ≡ true
    → AreWeights p w → IsImpossible (rows_of p.limits) node w.items r us → IsTop p (prices_of w) node (multipliers_bound p node us (prices_of w))
impossible_top p node w r us c ws h =
    let whole = bound_excess p node w r us c ws.each h.rows_each h.balanced in
    inr (none_feasible p node c h.none, omega (arith, ints, whole, h.below, ws.constant.0))

amounts_small : (us : List ℕ) → ((k : ℕ) → slice_index us k ≤ 2 ^ 108) → All (λ u. u ≤ number_bound) us
amounts_small us amount k d inside = rw (get_or_default us k d 0 inside) (amount k)

multipliers_close : (p : ProblemData) (node : List Mark) (w : WeightsData) (us : Roomy ℕ) → kind_of p.limits ≡ K.Closure → (Clashes p node → ⊥)
    → length us.items ≡ length (rows_of p.limits) → ((k : ℕ) → slice_index us.items k ≤ 2 ^ 108) → IsTop p (prices_of w) node (multipliers_bound p node us.items (prices_of w))
    → Closes p (prices_of w) node (C.Multipliers us)
multipliers_close p node w us k free e amount top = Closes-from_bound p (prices_of w) node (C.Multipliers us) (multipliers_bound p node us.items (prices_of w))
    (λ q. cc) (HasShape-at (kind_of p.limits) K.Closure (C.Multipliers us) k tt) (amounts_small us.items amount) free (amounts_fit p us.items (Closure-all p.limits k) e, refl) top

-- What both phases come to closes a node that doesn't clash.
pub done_closes : (p : ProblemData) (node : List Mark) (w : WeightsData) (r : List ℤ) (us : Roomy ℕ) (spots : List Spot) (possible : Bool)
    → kind_of p.limits ≡ K.Closure → length node ≡ product_count p → AreWeights p w → (Clashes p node → ⊥)
    → IsDone (rows_of p.limits) node w.items r us.items spots possible → Closes p (prices_of w) node (C.Multipliers us)
done_closes p node w r us spots true k ln ws free s = multipliers_close p node w us k free s.rows_each s.amount
    (solved_top p node w r us.items spots (Closure-all p.limits k) ln ws.each s)
done_closes p node w r us spots false k ln ws free h = multipliers_close p node w us k free h.rows_each h.amount
    (impossible_top p node w r us.items (Closure-all p.limits k) ws h)

-- A greatest closed set, or none, answers the step.
pub closure_answers : (p : ProblemData) (node : List Mark) (w : WeightsData) (found : Option (List Bool)) → kind_of p.limits ≡ K.Closure
    → length node ≡ product_count p → length w.items ≡ product_count p
    → MatchOption found (HasNoClosure (rows_of p.limits) node)
    (λ x. (length x ≡ length node) × IsGreatestClosure (rows_of p.limits) node w.items (offers x))
    → Answers p (prices_of w) node found
closure_answers p node w (Some x) k ln lw h = closure_greatest p node w x (Closure-all p.limits k) ln lw (h.0 ∙ ln) h.1
closure_answers p node w None k ln lw h = none_feasible p node (Closure-all p.limits k) h

-- The lists of a step that is ready for a problem fit together.
pub ready_fits : (s : ClosureStep) (p : ProblemData) (node : List Mark) (rows : List Row) → IsReady s p → length node ≡ product_count p
    → rows ≡ s.rows.items → FitTogether rows node s.flow s.reach
ready_fits s p node rows r e is = record {
  names = subst (λ (x : List Row). AreNamed x (length s.reach.spots.items)) (sym (is ∙ r.rows))
      (subst (λ (n : ℕ). AreNamed (rows_of p.limits) n) (sym r.spots) (rows_named p (Closure-all p.limits r.kind) r.problem.limits.named));
  each = r.amounts ∙ ap length (sym is);
  marks = e ∙ sym r.spots;
  excess = r.excess ∙ sym r.spots;
  room = let room = r.room in let spots = r.spots in omega (arith, room, spots);
}
