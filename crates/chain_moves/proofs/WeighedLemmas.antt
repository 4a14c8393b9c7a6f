-- Weighted sums over products: in order, added and bounded.
use Rattle.std.proofs.Common.{ℕ, arith, suc, zero, ◌<◌, ◌≤◌, ◌*◌, ◌+◌}
use Rattle.std.proofs.Math.Nat.{mul-le-mul_left}
use Rattle.offer_model.specs.Assortments.{sum_below}
use Rattle.offer_model.proofs.SumLemmas.{sum_le}

-- Where f is nowhere above g, it weighs no more.
pub weighed_le : (n : ℕ) (w f g : ℕ → ℕ) → ((j : ℕ) → j < n → f j ≤ g j) → sum_below n (λ j. w j * f j) ≤ sum_below n (λ j. w j * g j)
weighed_le n w f g h = sum_le n (λ j. w j * f j) (λ j. w j * g j) (λ j l. mul-le-mul_left (w j) (h j l))

-- Where f is at most g and d together, it weighs at most as much as both.
pub weighed_add : (n : ℕ) (w f g d : ℕ → ℕ) → ((j : ℕ) → j < n → f j ≤ g j + d j)
    → sum_below n (λ j. w j * f j) ≤ sum_below n (λ j. w j * g j) + sum_below n (λ j. w j * d j)
weighed_add zero w f g d h = omega arith
weighed_add (suc n) w f g d h =
    let before = weighed_add n w f g d (λ j l. h j (omega arith)) in
    let here : w n * f n ≤ w n * (g n + d n) = mul-le-mul_left (w n) (h n (omega arith)) in
    omega arith

-- Where no number is above `most`, they weigh at most `most` times all weights.
pub weighed_most : (n most : ℕ) (w d : ℕ → ℕ) → ((j : ℕ) → j < n → d j ≤ most)
    → sum_below n (λ j. w j * d j) ≤ most * sum_below n (λ j. w j * 1)
weighed_most zero most w d h = omega arith
weighed_most (suc n) most w d h =
    let before = weighed_most n most w d (λ j l. h j (omega arith)) in
    let here : w n * d n ≤ w n * most = mul-le-mul_left (w n) (h n (omega arith)) in
    omega arith
