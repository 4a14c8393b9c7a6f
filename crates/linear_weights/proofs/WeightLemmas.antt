-- Sums of weights: one more product, that they fit, and that equal prices have equal sums.
use Rattle.std.proofs.Common.{◌≡◌, ℕ, zero, suc, ◌+◌, ◌*◌, ◌^◌, ◌<◌, ◌≤◌, Bool, true, false, cond, List, refl, ap, arith, add-one}
use Rattle.std.specs.Prelude.{pos, ◌+ℤ◌, ◌≤ℤ◌}
use lib.IntN.{ℤ}
use Rattle.std.proofs.lemmas.Int.{ints}
use Rattle.offer_model.specs.declared.node.Mark.{Mark}
use Rattle.offer_model.specs.Problems.{ProblemData, product_count}
use Rattle.offer_model.specs.Nodes.{mark_at}
use Rattle.offer_model.specs.Prices.{Prices, int_sum_below, most_of, greatest_worth}
use Rattle.offer_model.proofs.SumLemmas.{int_sum_below-same}
use Rattle.linear_weights.specs.Weights.{IsWithin, SumsFit}

-- ---- Equal prices.

-- At equal prices a node has the same greatest worth.
pub greatest_worth-same : (p : ProblemData) (node : List Mark) (a b : Prices) → a.constant ≡ b.constant → ((i : ℕ) → i < product_count p → a.price i ≡ b.price i)
    → greatest_worth p node a ≡ greatest_worth p node b
greatest_worth-same p node a b e same =
    let sums = int_sum_below-same (product_count p) (λ i. most_of (mark_at node i) (a.price i)) (λ i. most_of (mark_at node i) (b.price i)) (λ i l. ap (most_of (mark_at node i)) (same i l)) in
    cc

-- Lists of the same prices have sums that fit alike.
pub SumsFit-same : (p : ProblemData) (node : List Mark) (a b : Prices) → a.constant ≡ b.constant → ((i : ℕ) → i < product_count p → a.price i ≡ b.price i)
    → SumsFit p node b → SumsFit p node a
SumsFit-same p node a b e same fit n l =
    let sums = int_sum_below-same n (λ i. most_of (mark_at node i) (a.price i)) (λ i. most_of (mark_at node i) (b.price i)) (λ i h. ap (most_of (mark_at node i)) (same i (omega arith))) in
    rw (e, sums) (fit n l)

-- ---- One more product.

-- One more product in a sum.
pub sum_at : (n : ℕ) (f : ℕ → ℤ) (start sum z : ℤ) → sum ≡ start +ℤ int_sum_below n f → z ≡ f n → sum +ℤ z ≡ start +ℤ int_sum_below (n + 1) f
sum_at n f start sum z e here =
    let more : int_sum_below (n + 1) f ≡ int_sum_below n f +ℤ f n = rw add-one refl in
    omega (arith, ints, e, here, more)

-- What one product adds at most, from what the calls answered.
pub most_at : (m k : Mark) (a b c : ℤ) → m ≡ k → a ≡ b → b ≡ c → most_of m a ≡ most_of k c
most_at m k a b c e f g = cc

-- What one product adds, from what the calls answered.
pub added_is : (r : ℤ) (b c : Bool) (x y z : ℤ) → r ≡ cond b x (pos 0) → b ≡ c → x ≡ y → y ≡ z → r ≡ cond c z (pos 0)
added_is r b c x y z e f g h = cc

-- ---- Sums of weights.

added_within : (b : Bool) (z : ℤ) → IsWithin (2 ^ 98) z → IsWithin (2 ^ 98) (cond b z (pos 0))
added_within true z w = w
added_within false z w = (omega (arith, ints), omega (arith, ints))

sum_high : (n : ℕ) (y : ℕ → Bool) (f : ℕ → ℤ) → ((i : ℕ) → i < n → IsWithin (2 ^ 98) (f i))
    → int_sum_below n (λ i. cond (y i) (f i) (pos 0)) ≤ℤ pos (n * 2 ^ 98)
sum_high zero y f w = omega (arith, ints)
sum_high (suc n) y f w =
    let before = sum_high n y f (λ i l. w i (omega arith)) in
    let here = (added_within (y n) (f n) (w n (omega arith))).0 in
    omega (arith, ints)

sum_low : (n : ℕ) (y : ℕ → Bool) (f : ℕ → ℤ) → ((i : ℕ) → i < n → IsWithin (2 ^ 98) (f i))
    → pos 0 ≤ℤ (int_sum_below n (λ i. cond (y i) (f i) (pos 0)) +ℤ pos (n * 2 ^ 98))
sum_low zero y f w = omega (arith, ints)
sum_low (suc n) y f w =
    let before = sum_low n y f (λ i l. w i (omega arith)) in
    let here = (added_within (y n) (f n) (w n (omega arith))).1 in
    omega (arith, ints)

-- What the products below i weigh, and one more, fits.
pub worth_fits : (n i : ℕ) (y : ℕ → Bool) (f : ℕ → ℤ) (start sum here : ℤ) → n ≤ 256 → i < n → ((k : ℕ) → k < n → IsWithin (2 ^ 98) (f k))
    → IsWithin (2 ^ 106) start → sum ≡ start +ℤ int_sum_below i (λ k. cond (y k) (f k) (pos 0)) → here ≡ cond (y i) (f i) (pos 0) → IsWithin (2 ^ 126) (sum +ℤ here)
worth_fits n i y f start sum here few l w s e h =
    let high = sum_high i y f (λ k m. w k (omega arith)) in
    let low = sum_low i y f (λ k m. w k (omega arith)) in
    let one = added_within (y i) (f i) (w i l) in
    let above = one.0 in
    let below = one.1 in
    let start_high = s.0 in
    let start_low = s.1 in
    (omega (arith, ints), omega (arith, ints))
