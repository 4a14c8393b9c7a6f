-- Scaled weights: they are weights, what weighs most by them weighs most, and what reaches the scaled floor reaches the floor.
use Rattle.std.proofs.Common.{◌≡◌, ◌⊎◌, ℕ, zero, suc, ◌^◌, ◌<◌, ◌≤◌, Bool, true, false, cond, List, Option, Some, None, refl, inl, inr, arith}
use Rattle.std.specs.Prelude.{pos, ◌+ℤ◌, ◌*ℤ◌, ◌≤ℤ◌, ◌<ℤ◌, Result, Ok, Err, IfOk}
use Rattle.std.proofs.lemmas.Int.{ints}
use lib.IntN.{ℤ}
use Rattle.offer_model.specs.declared.node.Mark.{Mark}
use Rattle.offer_model.specs.Assortments.{offers}
use Rattle.offer_model.specs.Problems.{ProblemData, product_count}
use Rattle.offer_model.specs.Validity.{IsProblem}
use Rattle.offer_model.specs.Prices.{int_sum_below, worth_of}
use Rattle.linear_weights.specs.Weights.{WeightsData, AreWeights, IsWithin, prices_of, weight_at}
use Rattle.linear_step.specs.Answers.{AnswersFrom}
use Rattle.tree_search.specs.Turns.{least}
use Rattle.several_step.specs.Scales.{times, AreSmallEnough, AreScaled}
use Rattle.several_step.proofs.WeightLemmas.{worth_low}

-- ---- Scaled weights are small.

pub times_price : (up : Bool) (z : ℤ) → IsWithin (2 ^ 98) z → (up ≡ true → IsWithin (2 ^ 88) z) → IsWithin (2 ^ 98) (times up z)
times_price false z w s = w
times_price true z w s = let h = s refl in let a = h.0 in let b = h.1 in (omega (arith, ints), omega (arith, ints))

pub times_constant : (up : Bool) (z : ℤ) → IsWithin (2 ^ 106) z → (up ≡ true → IsWithin (2 ^ 96) z) → IsWithin (2 ^ 106) (times up z)
times_constant false z w s = w
times_constant true z w s = let h = s refl in let a = h.0 in let b = h.1 in (omega (arith, ints), omega (arith, ints))

-- ---- What an assortment weighs is scaled too.

sum_times : (n : ℕ) (y : ℕ → Bool) (f g : ℕ → ℤ) (up : Bool) → ((i : ℕ) → i < n → g i ≡ times up (f i))
    → int_sum_below n (λ i. cond (y i) (g i) (pos 0)) ≡ times up (int_sum_below n (λ i. cond (y i) (f i) (pos 0)))
sum_times zero y f g true h = omega (arith, ints)
sum_times zero y f g false h = refl
sum_times (suc n) y f g up h =
    one up (y n) (sum_times n y f g up (λ i l. h i (omega arith))) (h n (omega arith))
  where
    one : (up b : Bool) → int_sum_below n (λ i. cond (y i) (g i) (pos 0)) ≡ times up (int_sum_below n (λ i. cond (y i) (f i) (pos 0)))
        → g n ≡ times up (f n)
        → int_sum_below n (λ i. cond (y i) (g i) (pos 0)) +ℤ cond b (g n) (pos 0)
        ≡ times up (int_sum_below n (λ i. cond (y i) (f i) (pos 0)) +ℤ cond b (f n) (pos 0))
    one true true before here = omega (arith, ints)
    one true false before here = omega (arith, ints)
    one false true before here = omega (arith, ints)
    one false false before here = omega (arith, ints)

worth_times : (p : ProblemData) (w s : WeightsData) (floor raised : ℤ) (y : List Bool) → (a : AreScaled p w floor s raised)
    → worth_of p (prices_of s) y ≡ times a.up (worth_of p (prices_of w) y)
worth_times p w s floor raised y a =
    whole a.up a.constant (sum_times (product_count p) (offers y) (weight_at w) (weight_at s) a.up a.price)
  where
    whole : (up : Bool) → s.constant ≡ times up w.constant
        → int_sum_below (product_count p) (λ i. cond (offers y i) (weight_at s i) (pos 0))
        ≡ times up (int_sum_below (product_count p) (λ i. cond (offers y i) (weight_at w i) (pos 0)))
        → worth_of p (prices_of s) y ≡ times up (worth_of p (prices_of w) y)
    whole true c h = omega (arith, ints)
    whole false c h = omega (arith, ints)

-- ---- Answers by scaled weights are answers.

times_most : (up : Bool) (a b : ℤ) → times up a ≤ℤ times up b → a ≤ℤ b
times_most true a b h = omega (arith, ints)
times_most false a b h = h

times_less : (up : Bool) (a b : ℤ) → times up a <ℤ times up b → a <ℤ b
times_less true a b h = omega (arith, ints)
times_less false a b h = h

module _ (p : ProblemData) (w s : WeightsData) (floor raised : ℤ) (valid : IsProblem p) (fit : AreWeights p w) (are : AreWeights p s)
    (a : AreScaled p w floor s raised) where
  reaches : (y : List Bool) → raised ≤ℤ worth_of p (prices_of s) y → floor ≤ℤ worth_of p (prices_of w) y
  reaches y h = by_floor a.from (rw (worth_times p w s floor raised y a) at h)
    where
      by_floor : (raised ≡ times a.up floor) ⊎ ((floor ≡ least) × (raised ≡ least)) → raised ≤ℤ times a.up (worth_of p (prices_of w) y)
          → floor ≤ℤ worth_of p (prices_of w) y
      by_floor (inl e) h = times_most a.up floor (worth_of p (prices_of w) y) (rw e at h)
      by_floor (inr e) h = let low = worth_low p (prices_of w) y valid.few fit.constant fit.small in let is = e.0 in omega (arith, ints)

  misses : (y : List Bool) → worth_of p (prices_of s) y <ℤ raised → worth_of p (prices_of w) y <ℤ floor
  misses y h = by_floor a.from
    where
      by_floor : (raised ≡ times a.up floor) ⊎ ((floor ≡ least) × (raised ≡ least)) → worth_of p (prices_of w) y <ℤ floor
      by_floor (inl e) = times_less a.up (worth_of p (prices_of w) y) floor (rw e at (rw (worth_times p w s floor raised y a) at h))
      by_floor (inr e) = let low = worth_low p (prices_of s) y valid.few are.constant are.small in let is = e.1 in absurd (omega (arith, ints))

  scaled_answers : (node : List Mark) (o : Option (List Bool)) → AnswersFrom p (prices_of s) node raised o → AnswersFrom p (prices_of w) node floor o
  scaled_answers node (Some x) t = (
    record {
      feasible = t.0.feasible;
      completes = t.0.completes;
      most = λ y f c. times_most a.up (worth_of p (prices_of w) y) (worth_of p (prices_of w) x)
          (rw (worth_times p w s floor raised y a, worth_times p w s floor raised x a) at (t.0.most y f c));
    },
    reaches x t.1,
  )
  scaled_answers node None t = λ y f c. misses y (t y f c)

  pub scaled_found : {E : Type 0} (node : List Mark) (r : Result (Option (List Bool)) E) → IfOk r (AnswersFrom p (prices_of s) node raised)
      → IfOk r (AnswersFrom p (prices_of w) node floor)
  scaled_found node (Ok o) t = scaled_answers node o t
  scaled_found node (Err e) t = tt
