-- Sums over segments of sums over products, and the choice that is greatest product by product.
use Rattle.std.proofs.Common.{◌≡◌, ℕ, zero, suc, ◌+◌, ◌-◌, ◌*◌, ◌<◌, ◌≤◌, Bool, true, false, cond, refl, ap, ◌∙◌, arith, add-one}
use Rattle.std.specs.Prelude.{List, length, sum_by}
use Rattle.offer_model.specs.Assortments.{sum_below}
use Rattle.offer_model.proofs.SumLemmas.{over, over_add, over_times, over_same, sum_below_le, sum_below-items}
use Rattle.segment_bound.specs.declared.order.Ranked.{Ranked}
use Rattle.segment_bound.specs.Orders.{listed_at}

-- ---- Sums over segments, as sums over products.

-- What speaks for a choice, product by product.
pub raised_by_product : (m n : ℕ) (y : ℕ → Bool) (P : ℕ) (u k c : ℕ → ℕ) (r : ℕ → ℕ) (v : ℕ → ℕ → ℕ)
    → sum_below m (λ j. P * u j + k j * (c j * over n y (λ i. r i * v j i)))
    ≡ sum_below m (λ j. P * u j) + over n y (λ i. sum_below m (λ j. k j * v j i * (c j * r i)))
raised_by_product zero n y P u k c r v = zeros n
  where
    zeros : (l : ℕ) → 0 ≡ 0 + over l y (λ i. 0)
    zeros zero = omega arith
    zeros (suc l) = let before = zeros l in elim (y l) as (λ b. 0 ≡ 0 + (over l y (λ i. 0) + cond b 0 0)) [ true ↦ omega (arith, before) | false ↦ omega (arith, before) ]
raised_by_product (suc m) n y P u k c r v =
    let before = raised_by_product m n y P u k c r v in
    let add = over_add n y (λ i. sum_below m (λ j. k j * v j i * (c j * r i))) (λ i. k m * v m i * (c m * r i)) in
    let same = over_same n y (λ i. k m * v m i * (c m * r i)) (λ i. k m * c m * (r i * v m i)) (λ i. omega arith) in
    let times = over_times n y (k m * c m) (λ i. r i * v m i) in
    omega (arith, before, add, same, times)

-- What speaks against it.
pub lowered_by_product : (m n : ℕ) (y : ℕ → Bool) (u k none : ℕ → ℕ) (v : ℕ → ℕ → ℕ)
    → sum_below m (λ j. k j * (u j * (none j + over n y (v j))))
    ≡ sum_below m (λ j. k j * (u j * none j)) + over n y (λ i. sum_below m (λ j. k j * v j i * u j))
lowered_by_product zero n y u k none v = zeros n
  where
    zeros : (l : ℕ) → 0 ≡ 0 + over l y (λ i. 0)
    zeros zero = omega arith
    zeros (suc l) = let before = zeros l in elim (y l) as (λ b. 0 ≡ 0 + (over l y (λ i. 0) + cond b 0 0)) [ true ↦ omega (arith, before) | false ↦ omega (arith, before) ]
lowered_by_product (suc m) n y u k none v =
    let before = lowered_by_product m n y u k none v in
    let add = over_add n y (λ i. sum_below m (λ j. k j * v j i * u j)) (λ i. k m * v m i * u m) in
    let same = over_same n y (λ i. k m * v m i * u m) (λ i. k m * u m * v m i) (λ i. omega arith) in
    let times = over_times n y (k m * u m) (v m) in
    omega (arith, before, add, same, times)

-- ---- Differences.

-- A difference of such sums is no more, or as much.
pub less_or_same : (R D a b a0 b0 s : ℕ) → a + b0 ≤ b + a0 + s → R + a - (D + b) ≤ R + a0 + s - (D + b0)
less_or_same R D a b a0 b0 s h = omega arith

pub same_difference : (R D a b a0 b0 s : ℕ) → a + b0 ≡ b + a0 + s → R + a - (D + b) ≡ R + a0 + s - (D + b0)
same_difference R D a b a0 b0 s h = omega arith

-- ---- Sizes.

-- A term is at most the sum.
pub term_below : (n i : ℕ) (f : ℕ → ℕ) → i < n → f i ≤ sum_below n f
term_below n i f l = let part = sum_below_le (suc i) n f (omega arith) in omega (arith, part)

-- Numbers at most so many parts of a segment's number sum to at most so many parts of the sum.
pub parts_most : (n M : ℕ) (f u : ℕ → ℕ) → ((k : ℕ) → k < n → f k ≤ M * u k) → sum_below n f ≤ M * sum_below n u
parts_most zero M f u h = omega arith
parts_most (suc n) M f u h =
    let before = parts_most n M f u (λ k l. h k (omega arith)) in
    let here = h n (omega arith) in
    omega (arith, before, here)

-- The sum of two such sums.
pub sum_of_two : (n : ℕ) (f g : ℕ → ℕ) → sum_below n (λ k. f k + g k) ≡ sum_below n f + sum_below n g
sum_of_two zero f g = refl
sum_of_two (suc n) f g = let before = sum_of_two n f g in omega (arith, before)

-- ---- Loops.

-- One more term of a sum.
pub sum_next : (n : ℕ) (f : ℕ → ℕ) (t x : ℕ) → t ≡ sum_below n f → x ≡ f n → t + x ≡ sum_below (n + 1) f
sum_next n f t x e h = let more : sum_below (n + 1) f ≡ sum_below n f + f n = rw add-one refl in omega (arith, e, h, more)

-- A product stays within what its factors' values allow.
pub within : (g d a x t y M : ℕ) → g ≡ d → a ≡ t → x ≡ y → d + t * y ≤ M → g + a * x ≤ M
within g d a x t y M e f h l = rw (e, f, h) l

-- A sum over all ranks is the sum over the order.
pub sum_listed : (f : Ranked → ℕ) (order : List Ranked) (r t : ℕ) → r ≡ length order → t ≡ sum_below r (λ j. f (listed_at order j)) → t ≡ sum_by f order
sum_listed f order r t e h = h ∙ (ap (λ n. sum_below n (λ j. f (listed_at order j))) e ∙ sum_below-items f order (record { margin = 0; product = 0 }))
