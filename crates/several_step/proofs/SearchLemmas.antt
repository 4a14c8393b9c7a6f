-- What the step by search rests on: relaxed prices and chains bound, and what is greatest of the goal answers the step.
use Rattle.std.proofs.Common.{◌≡◌, ℕ, zero, suc, ◌+◌, ◌*◌, ◌^◌, ◌<◌, ◌≤◌, ◌==◌, Bool, true, false, cond, List, [], ◌∷◌, length, Option, Some, None, refl, ap, ◌∙◌, sym, arith}
use Rattle.std.specs.Prelude.{pos, negsuc, ◌+ℤ◌, ◌-ℤ◌, ◌≤ℤ◌, All, Result, Ok, Err, IfOk, slice_index}
use lib.IntN.{ℤ}
use Rattle.std.proofs.lemmas.Int.{ints}
use Rattle.std.proofs.lemmas.List.Elements.{All-get_or}
use Rattle.offer_model.specs.declared.node.Mark.{Mark}
use Rattle.offer_model.specs.declared.node.Mark.TheVariants.{In, Out, Open}
use Rattle.offer_model.specs.declared.products.Limit.{Limit}
use Rattle.offer_model.specs.declared.products.Limit.TheVariants.{Total, Category, Requires, Shelf, Ladder}
use Rattle.offer_model.specs.Assortments.{offers, sum_below}
use Rattle.several_step.specs.declared.rungs.Rung.{Rung}
use Rattle.offer_model.specs.Problems.{ProblemData, product_count}
use Rattle.offer_model.specs.Limits.{IsFeasible}
use Rattle.offer_model.specs.Nodes.{mark_at, Completes}
use Rattle.offer_model.specs.Prices.{Prices, int_sum_below, most_of, worth_of}
use Rattle.offer_model.specs.LeafBounds.{most_beside, relaxed, added_by, added_to, taken_off, priced_limit_at}
use Rattle.offer_model.proofs.SumLemmas.{sum_most, int_sum_below-same}
use Rattle.offer_model.proofs.MultiplierLemmas.{relaxed_raises, filter_meets}
use Rattle.std.proofs.lemmas.List.Elements.{All-from_recursion, recursion_from_All}
use Rattle.offer_model.specs.Limits.{Meets}
use Rattle.offer_model.specs.LeafBounds.{MultipliersFit, is_priced, priced_limits}
use Rattle.linear_weights.specs.Weights.{WeightsData, AreWeights, IsWithin, SumsFit, weight_at, prices_of}
use Rattle.linear_step.specs.Answers.{Answers, AnswersFrom}
use Rattle.multiplier_bound.specs.Fits.{AreFit, AreSmall, IsRelaxed, Relaxes}
use Rattle.multiplier_bound.proofs.RelaxLemmas.{us_few}
use Rattle.tree_search.specs.Goals.{IsGreatestFrom}
use Rattle.tree_search.specs.Turns.{least}
use Rattle.several_step.proofs.WeightLemmas.{worth_low}
use Rattle.offer_model.specs.Validity.{IsProblem}
use Rattle.tree_search.specs.Progress.{IsFeasibleBest}
use Rattle.several_step.specs.Firsts.{FirstData, IsFirst}
use Rattle.several_step.specs.ChainFits.{IsList, IsRelaxedList, BesideFits}
use Rattle.std.proofs.lemmas.List.Elements.{All-weaker}
use Rattle.several_step.specs.Chains.{flag_at, IsRung, AreRungs}
use Rattle.several_step.specs.WeightGoals.{GoalData, rules_of, AreBounds}
use Rattle.several_step.proofs.ChainLemmas.{chains_hold}

-- ---- Sums fit.

abbrev shut_mark : Bool → Mark → Mark
shut_mark true Open = Out
shut_mark true In = In
shut_mark true Out = Out
shut_mark false m = m

-- The node with each Open product that is marked Out.
abbrev shut : List Bool → List Mark → List Mark
shut [] node = node
shut (b ∷ limited) [] = []
shut (b ∷ limited) (m ∷ node) = shut_mark b m ∷ shut limited node

shut_at : (limited : List Bool) (node : List Mark) (i : ℕ) → mark_at (shut limited node) i ≡ shut_mark (flag_at limited i) (mark_at node i)
shut_at [] node i = refl
shut_at (true ∷ limited) [] zero = refl
shut_at (false ∷ limited) [] zero = refl
shut_at (b ∷ limited) [] (suc i) = by_flag (flag_at limited i)
  where
    by_flag : (v : Bool) → Out ≡ shut_mark v Out
    by_flag true = refl
    by_flag false = refl
shut_at (b ∷ limited) (m ∷ node) zero = refl
shut_at (b ∷ limited) (m ∷ node) (suc i) = shut_at limited node i

most_shut : (v : Bool) (m : Mark) (z : ℤ) → most_beside m v z ≡ most_of (shut_mark v m) z
most_shut true In z = refl
most_shut true Out z = refl
most_shut true Open z = refl
most_shut false In z = refl
most_shut false Out z = refl
most_shut false Open z = refl

-- Sums beside the ladders fit where those of all nodes do.
pub beside_fits : (p : ProblemData) (list : WeightsData) (node : List Mark) (limited : List Bool) → IsList p list → BesideFits p node (prices_of list) limited
beside_fits p list node limited l n few =
    let same = int_sum_below-same n (λ i. most_beside (mark_at node i) (flag_at limited i) (weight_at list i)) (λ i. most_of (mark_at (shut limited node) i) (weight_at list i))
    (λ i m. most_shut (flag_at limited i) (mark_at node i) (weight_at list i) ∙ ap (λ k. most_of k (weight_at list i)) (sym (shut_at limited node i))) in
    rw same (l.sums (shut limited node) n few)

-- ---- Relaxed prices are not too great.

added_most : (limit : Limit) (u i : ℕ) → u ≤ 2 ^ 100 → added_by limit u i ≤ 2 ^ 100
added_most (Requires a b) u i h = flagged (i == b) u h
  where
    flagged : (v : Bool) (u : ℕ) → u ≤ 2 ^ 100 → cond v u 0 ≤ 2 ^ 100
    flagged true u h = h
    flagged false u h = omega arith
added_most (Total cap) u i h = omega arith
added_most (Category c cap) u i h = omega arith
added_most (Shelf space) u i h = omega arith
added_most (Ladder l) u i h = omega arith

-- A list that multipliers of at most 2 ^ 100 have relaxed.
pub small_list : (p : ProblemData) (us : List ℕ) (w list : WeightsData) → AreFit p us → AreSmall us → AreWeights p w → IsRelaxed p us (prices_of w) list
    → IsRelaxedList p (prices_of w) list
small_list p us w list f s fit r = record {
  relaxes = record { us = us; fit = f; relaxed = r };
  prices = record {
    few = f.valid.few;
    each = r.each;
    small = λ i l.
        let count = us_few p us f in
        let up = sum_most (length us) (2 ^ 100) (λ j. added_by (priced_limit_at p j) (slice_index us j) i)
        (λ j m. added_most (priced_limit_at p j) (slice_index us j) i (All-get_or (λ u. u ≤ 2 ^ 100) us j 0 m s)) in
        let here = r.price i l in
        let own = (fit.small i l).0 in
        omega (arith, ints);
    sums = r.sums;
  };
}

-- ---- The list and the rungs bound.

-- Multipliers don't lower what a feasible assortment is worth.
met_raises : (p : ProblemData) (us : List ℕ) (at : Prices) (y : List Bool) → IsFeasible p y → MultipliersFit p us
    → worth_of p at y ≤ℤ worth_of p (relaxed p us at) y
met_raises p us at y f k =
    let meets = All-from_recursion (Meets p y) (priced_limits p) (filter_meets (Meets p y) is_priced p.limits (recursion_from_All (Meets p y) p.limits f.1)) in
    relaxed_raises p us at y f.0 (λ i h. All-get_or (Meets p y) (priced_limits p) i (Ladder 0) (omega (arith, k.each)) meets)

pub list_bounds : (p : ProblemData) (w list : WeightsData) (rungs : List Rung) (limited : List Bool) → AreWeights p w → IsRelaxedList p (prices_of w) list
    → AreRungs p rungs limited → AreBounds p w list rungs limited
list_bounds p w list rungs limited fit r are = record {
  weights = fit;
  prices = r.prices;
  are = record { few = are.few; each = are.each; inside = All-weaker (IsRung p) (λ (r : Rung). r.at < product_count p) (λ r h. h.inside) rungs are.are };
  bounds = λ node y f c.
      let us = r.relaxes.us in
      let raised = raises us r.relaxes.fit y f in
      let same = worth_same (prices_of list) (relaxed p us (prices_of w)) y r.relaxes.relaxed.constant r.relaxes.relaxed.price in
      let most = chains_hold p node (prices_of list) rungs limited y are c f in
      omega (arith, ints);
}
  where
    raises : (us : List ℕ) → AreFit p us → (y : List Bool) → IsFeasible p y → worth_of p (prices_of w) y ≤ℤ worth_of p (relaxed p us (prices_of w)) y
    raises us a y f = met_raises p us (prices_of w) y f a.fit

    worth_same : (a b : Prices) (y : List Bool) → a.constant ≡ b.constant → ((i : ℕ) → i < product_count p → a.price i ≡ b.price i)
        → worth_of p a y ≡ worth_of p b y
    worth_same a b y e h =
        let sums = int_sum_below-same (product_count p) (λ i. cond (offers y i) (a.price i) (pos 0)) (λ i. cond (offers y i) (b.price i) (pos 0))
        (λ i l. ap (λ z. cond (offers y i) z (pos 0)) (h i l)) in
        omega (arith, ints)

-- ---- A greatest one answers the step.

-- What is greatest of the goal from a floor is an answer of the step.
greatest_answers : (g : GoalData) (floor : ℤ) (o : Option (List Bool)) → IsGreatestFrom (rules_of g) floor o
    → AnswersFrom g.problem (prices_of g.weights) g.root floor o
greatest_answers g floor (Some x) t = (
  record {
    feasible = t.0.1.0;
    completes = t.0.1.1;
    most = λ y f c. t.2 y (f.0, (f, c));
  },
  t.1,
)
greatest_answers g floor None t = λ y f c. t y (f.0, (f, c))

-- So is what the search found.
pub found_answers : {E : Type 0} (g : GoalData) (floor : ℤ) (r : Result (Option (List Bool)) E) → IfOk r (IsGreatestFrom (rules_of g) floor)
    → IfOk r (AnswersFrom g.problem (prices_of g.weights) g.root floor)
found_answers g floor (Ok o) t = greatest_answers g floor o t
found_answers g floor (Err e) t = tt

least_answers : (p : ProblemData) (w : WeightsData) (node : List Mark) (o : Option (List Bool)) → IsProblem p → AreWeights p w
    → AnswersFrom p (prices_of w) node least o → Answers p (prices_of w) node o
least_answers p w node (Some x) valid fit t = t.0
least_answers p w node None valid fit t = λ y f c.
    let low = worth_low p (prices_of w) y valid.few fit.constant fit.small in
    let below = t y f c in
    absurd (omega (arith, ints))

-- Nothing is worth less than the least number of 128 bits: an answer from there is one without a floor.
pub answers_from_least : {E : Type 0} (p : ProblemData) (w : WeightsData) (node : List Mark) (r : Result (Option (List Bool)) E) → IsProblem p
    → AreWeights p w → IfOk r (AnswersFrom p (prices_of w) node least) → IfOk r (Answers p (prices_of w) node)
answers_from_least p w node (Ok o) valid fit t = least_answers p w node o valid fit t
answers_from_least p w node (Err e) valid fit t = tt

-- A first completion of the root is a feasible one of the goal.
pub first_feasible : (g : GoalData) (f : FirstData) → IsFirst g.problem g.root f → IsFeasibleBest (rules_of g) (cond f.known (Some f.offered) None)
first_feasible g f first = by_flag f.known first
  where
    by_flag : (v : Bool) → (v ≡ true → IsFeasible g.problem f.offered × Completes g.root f.offered) → IsFeasibleBest (rules_of g) (cond v (Some f.offered) None)
    by_flag true h = let k = h refl in (k.0.0, k)
    by_flag false h = tt
