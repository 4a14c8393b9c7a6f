-- Sums over products.
use Rattle.std.proofs.Common.{◌≡◌, ℕ, cond, refl, arith, suc, zero, ◌<◌, ◌≤◌, ◌+◌, ◌*◌, eqb, inl, inr, subst, ◌≢◌}
use Rattle.std.specs.Prelude.{pos, ◌+ℤ◌, ◌≤ℤ◌}
use Rattle.std.proofs.lemmas.Int.{ints}
use Rattle.std.proofs.lemmas.Bool.Decides.{eqb_tells, nat_tests}
use lib.IntN.{ℤ}
use Rattle.offer_model.specs.Assortments.{sum_below}
use Rattle.offer_model.specs.Prices.{int_sum_below}
use Rattle.offer_model.proofs.SumLemmas.{int_sum_below-zeros}
use Rattle.cut_step.specs.Flows.{at}

-- A sum of terms that aren't below 0 isn't below 0.
pub sum_none : (n : ℕ) (f : ℕ → ℤ) → ((i : ℕ) → i < n → pos 0 ≤ℤ f i) → pos 0 ≤ℤ int_sum_below n f
sum_none zero f h = omega (arith, ints)
sum_none (suc n) f h =
    let before = sum_none n f (λ i l. h i (omega arith)) in
    let here = h n (omega arith) in
    omega (arith, ints)

-- At its own product the number stands.
pub at_same : (i : ℕ) (z : ℤ) → at i i z ≡ z
at_same i z = grind (arith, nat_tests)

-- At another product 0 stands.
pub at_other : (i a : ℕ) (z : ℤ) → i ≢ a → at i a z ≡ pos 0
at_other i a z h = grind (arith, nat_tests)

-- The sum of a number at one product is the number.
pub sum_at : (n a : ℕ) (z : ℤ) → a < n → int_sum_below n (λ i. at i a z) ≡ z
sum_at zero a z h = absurd (omega arith)
sum_at (suc n) a z h = elim (eqb_tells n a) as (λ v. int_sum_below n (λ i. at i a z) +ℤ at n a z ≡ z) [
  | inl t ↦ let none = int_sum_below-zeros n (λ i. at i a z) (λ i l. at_other i a z (omega (arith, t.1))) in
      let here : at n a z ≡ z = rw (← t.1) (at_same n z) in
      omega (arith, ints, none, here)
  | inr f ↦ let before = sum_at n a z (omega (arith, f.1)) in
      let here = at_other n a z f.1 in
      omega (arith, ints, before, here)
]

-- A sum that falls by d at one place, and rises nowhere.
sum_none_less : (n : ℕ) (g' g : ℕ → ℕ) (c d : ℕ) → ((i : ℕ) → i < n → g' i + cond (eqb i c) d 0 ≤ g i) → sum_below n g' ≤ sum_below n g
sum_none_less zero g' g c d h = omega arith
sum_none_less (suc n) g' g c d h =
    let rest = sum_none_less n g' g c d (λ i l. h i (omega arith)) in
    let here = h n (omega arith) in
    omega arith

-- A sum that falls by d at one place, and rises nowhere, falls by d.
pub sum_less : (n : ℕ) (g' g : ℕ → ℕ) (c d : ℕ) → c < n → ((i : ℕ) → i < n → g' i + cond (eqb i c) d 0 ≤ g i) → sum_below n g' + d ≤ sum_below n g
sum_less zero g' g c d l h = absurd (omega arith)
sum_less (suc n) g' g c d l h = elim (eqb_tells n c) as (λ v. sum_below n g' + g' n + d ≤ sum_below n g + g n) [
  | inl t ↦ let rest = sum_none_less n g' g c d (λ i l. h i (omega arith)) in
      let here = rw t.0 at (h n (omega arith)) in
      omega (arith, rest, here)
  | inr f ↦ let rest = sum_less n g' g c d (omega (arith, f.1)) (λ i l. h i (omega arith)) in
      let here = rw f.0 at (h n (omega arith)) in
      omega (arith, rest, here)
]

-- A sum of n terms below b is below n times b by n at least.
pub sum_small : (n b : ℕ) (g : ℕ → ℕ) → ((i : ℕ) → i < n → g i < b) → sum_below n g + n ≤ n * b
sum_small zero b g h = omega arith
sum_small (suc n) b g h =
    let rest = sum_small n b g (λ i l. h i (omega arith)) in
    let here = h n (omega arith) in
    omega (arith, rest, here)

-- The sum of natural numbers, as an integer.
pub pos_sum : (n : ℕ) (g : ℕ → ℕ) → int_sum_below n (λ i. pos (g i)) ≡ pos (sum_below n g)
pos_sum zero g = refl
pos_sum (suc n) g = let before = pos_sum n g in omega (arith, ints, before)

-- The sum over one product is its term.
pub sum_pick : (n i : ℕ) (g : ℕ → ℤ) → i < n → int_sum_below n (λ j. cond (eqb i j) (g j) (pos 0)) ≡ g i
sum_pick zero i g l = absurd (omega arith)
sum_pick (suc n) i g l = elim (eqb_tells i n) as (λ v. int_sum_below n (λ j. cond (eqb i j) (g j) (pos 0)) +ℤ cond (eqb i n) (g n) (pos 0) ≡ g i) [
  | inl t ↦ let none = int_sum_below-zeros n (λ j. cond (eqb i j) (g j) (pos 0)) (λ j lj. at_other i j (g j) (omega (arith, t.1))) in
      let here : cond (eqb i n) (g n) (pos 0) ≡ g i = subst (λ (x : ℕ). cond (eqb i x) (g x) (pos 0) ≡ g i) t.1 (at_same i (g i)) in
      omega (arith, ints, none, here)
  | inr f ↦ let before = sum_pick n i g (omega (arith, f.1)) in
      let here = at_other i n (g n) f.1 in
      omega (arith, ints, before, here)
]
