-- A path of rows from what is In to what is Out.
use Rattle.std.proofs.Common.{◌≡◌, ℕ, true, false, List, length, refl, arith, ◌<◌, ◌^◌, inl, inr, ap, sym, subst, ◌∙◌}
use Rattle.std.specs.Prelude.{pos, negsuc, ◌+ℤ◌, ◌≤ℤ◌, slice_index, Some}
use Rattle.std.specs.Int.RustNames.{unsigned_abs}
use Rattle.std.proofs.lemmas.Int.{ints}
use Rattle.std.proofs.lemmas.Bool.Decides.{nat_tests}
use lib.IntN.{ℤ}
use Rattle.linear_step.specs.Weights.{constant_bound}
use Rattle.offer_model.proofs.SumLemmas.{sum_mono, int_sum_below-add}
use Rattle.offer_model.specs.declared.node.Mark.{Mark}
use Rattle.offer_model.specs.declared.node.Mark.TheVariants.{In, Out, Open}
use Rattle.offer_model.specs.Prices.{most_of}
use Rattle.offer_model.specs.Nodes.{mark_at, Agrees}
use Rattle.cut_step.specs.declared.rows.Row.{Row}
use Rattle.cut_step.specs.declared.phase.Phase.TheVariants.{Forced}
use Rattle.cut_step.specs.declared.reach.Entry.{Entry}
use Rattle.cut_step.specs.declared.reach.Spot.{Spot}
use Rattle.cut_step.specs.Closures.{price_at}
use Rattle.cut_step.specs.Flows.{bound, at, Carried}
use Rattle.cut_step.specs.Trees.{product_of, before, Pushed}
use Rattle.cut_step.specs.Searches.{takes, Ended}
use Rattle.cut_step.specs.Phases.{AreSmall, IsImpossible}
use Rattle.cut_step.proofs.FallLemmas.{abs_bounds, at_cases}
use Rattle.cut_step.proofs.ForcedLemmas.{none_back, roots_in, reached, true_false}
use Rattle.cut_step.proofs.StartLemmas.{few_times, flowing_start}
use Rattle.cut_step.proofs.TotalLemmas.{at_other, sum_at, sum_small, pos_sum}

takes_only : (m : Mark) (z : ℤ) → takes Forced m z ≡ true → m ≡ Out
takes_only In z h = cc
takes_only Out z h = refl
takes_only Open z h = cc

most_abs : (m : Mark) (z : ℤ) → most_of m z ≤ℤ pos (unsigned_abs z)
most_abs In z = (abs_bounds z).0
most_abs Out z = omega (arith, ints)
most_abs Open (pos n) = omega (arith, ints)
most_abs Open (negsuc n) = omega (arith, ints)

at_on : (i s : ℕ) (z : ℤ) → i ≡ s → at i s z ≡ z
at_on i s z h = grind (arith, nat_tests)

in_out : (m : Mark) → m ≡ In → m ≡ Out → ⊥
in_out m a b = cc

path_term : (node : List Mark) (w r : List ℤ) (s t d i : ℕ) → Carried w r s t d → mark_at node s ≡ In → mark_at node t ≡ Out
    → (most_of (mark_at node i) (price_at r i) +ℤ at i s (pos d)) ≤ℤ pos (unsigned_abs (price_at w i))
path_term node w r s t d i c ms mt = elim (at_cases i s t d (price_at w i) (price_at r i) (c.is i)) as (λ v. (most_of (mark_at node i) (price_at r i) +ℤ at i s (pos d)) ≤ℤ pos (unsigned_abs (price_at w i))) [
  | inl x ↦ absurd (in_out (mark_at node i) (ap (mark_at node) x.0 ∙ ms) (ap (mark_at node) x.1 ∙ mt))
  | inr (inl x) ↦
      let m : mark_at node i ≡ In = ap (mark_at node) x.0 ∙ ms in
      let e : most_of (mark_at node i) (price_at r i) ≡ price_at r i = ap (λ (m : Mark). most_of m (price_at r i)) m in
      let on = at_on i s (pos d) x.0 in
      let b = abs_bounds (price_at w i) in
      omega (arith, ints, e, on, b.0, x.2)
  | inr (inr (inl x)) ↦
      let m : mark_at node i ≡ Out = ap (mark_at node) x.1 ∙ mt in
      let e : most_of (mark_at node i) (price_at r i) ≡ pos 0 = ap (λ (m : Mark). most_of m (price_at r i)) m in
      let off = at_other i s (pos d) x.0 in
      omega (arith, ints, e, off)
  | inr (inr (inr x)) ↦
      let off = at_other i s (pos d) x.0 in
      let b = subst (λ (z : ℤ). most_of (mark_at node i) z ≤ℤ pos (unsigned_abs (price_at w i))) (sym x.2) (most_abs (mark_at node i) (price_at w i)) in
      omega (arith, ints, off, b)
]

path_below : (node : List Mark) (w r : List ℤ) (s t : ℕ) → AreSmall w → s < length w → Carried w r s t (2 ^ 108) → mark_at node s ≡ In → mark_at node t ≡ Out → (bound node (length w) (price_at r) +ℤ pos constant_bound) ≤ℤ pos 0
path_below node w r s t small l c ms mt =
    let each = sum_mono (length w) (λ i. most_of (mark_at node i) (price_at r i) +ℤ at i s (pos (2 ^ 108))) (λ i. pos (unsigned_abs (price_at w i))) (λ i l. path_term node w r s t (2 ^ 108) i c ms mt) in
    let parts = int_sum_below-add (length w) (λ i. most_of (mark_at node i) (price_at r i) +ℤ at i s (pos (2 ^ 108))) (λ i. most_of (mark_at node i) (price_at r i)) (λ i. at i s (pos (2 ^ 108))) (λ i l. refl) in
    let one = sum_at (length w) s (pos (2 ^ 108)) l in
    let whole = pos_sum (length w) (λ i. unsigned_abs (price_at w i)) in
    let most = sum_small (length w) (2 ^ 98) (λ i. unsigned_abs (price_at w i)) (λ i l. small.each i) in
    let few = few_times (length w) (2 ^ 98) small.few in
    omega (arith, ints, each, parts, one, whole, most, few)

-- Where the first phase reaches an Out product, no closed set agrees with the node, and the bound shows it.
pub impossible_end : (rows : List Row) (node : List Mark) (w r : List ℤ) (f f' : List ℕ) (spots0 spots : List Spot) (tree0 tree : List Entry) (p top : ℕ)
    → AreSmall w → length f ≡ length rows → ((k : ℕ) → slice_index f k ≡ 0) → length node ≡ length w → length spots ≡ length w
    → Ended rows node Forced f w spots0 tree0 spots tree (Some p) → Pushed rows tree p (2 ^ 108) f w top f' r → before tree top ≡ top → IsImpossible rows node w r f'
impossible_end rows node w r f f' spots0 spots tree0 tree p top small lf z ln ls e g root =
    let back = none_back rows node Forced f w spots tree e.searched z in
    let lt : top < length tree = omega (arith, g.above, e.told.0) in
    let out = takes_only (mark_at node (product_of tree p)) (price_at w (product_of tree p)) e.told.1 in
    let named = e.searched.well.named p e.told.0 in
    let first = e.searched.well.named top lt in
    record {
      none = λ y h.
          let offered = reached rows node f w spots tree y e.searched back (ls ∙ sym ln) h p e.told.0 in
          let not : y (product_of tree p) ≡ false = subst (λ (m : Mark). Agrees m (y (product_of tree p))) out (h.agrees (product_of tree p) (omega arith)) in
          true_false (y (product_of tree p)) offered not;
      balanced = g.balanced w refl (flowing_start rows node w f small lf z).balanced;
      below = path_below node w r (product_of tree top) (product_of tree p) small (omega arith) g.carried (roots_in rows node f w spots tree e.searched top lt root) out;
      amount = λ k. let a = g.amount k in let b = z k in omega (arith, a, b);
      rows_each = g.rows_each ∙ lf;
    }
