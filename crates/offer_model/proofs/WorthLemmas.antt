-- What an assortment is worth at a revenue says whether it earns more than that.
use Rattle.std.proofs.Common.{◌≡◌, ℕ, Bool, true, false, cond, List, length, arith, suc, zero, ◌<◌, ◌≤◌, ◌*◌, ◌+◌, ◌/◌}
use Rattle.std.specs.Prelude.{pos, ◌+ℤ◌, ◌-ℤ◌, ◌≤ℤ◌, ◌<ℤ◌, slice_index}
use Rattle.std.proofs.lemmas.Int.{ints}
use Rattle.offer_model.specs.Assortments.{offers, sum_below}
use Rattle.offer_model.specs.Prices.{int_sum_below, worth_of, prices_at, prices_above, greatest_worth}
use Rattle.offer_model.specs.Problems.{ProblemData, SegmentData, product_count, segment_at, margin_of, attraction_of, shadow_of, first_segment}
use Rattle.offer_model.specs.Revenue.{gain_of, weight_of, value_of, segment_value}
use Rattle.offer_model.specs.LeafBounds.{SegmentsFit, segments_bound}
use Rattle.offer_model.specs.Nodes.{Completes}
use Rattle.offer_model.specs.declared.node.Mark.{Mark}
use Rattle.offer_model.proofs.CompletionLemmas.{worth_of-le}
use Rattle.offer_model.proofs.SumLemmas.{sum_le}
use Rattle.std.proofs.Math.Nat.{div-lt_iff_lt-mul}

-- Product by product: what is offered, and the shadows of all.
pub sums_at : (n : ℕ) (y : ℕ → Bool) (r v w : ℕ → ℕ) (num den : ℕ)
    → int_sum_below n (λ i. cond (y i) (pos (den * (r i * v i) + num * w i) -ℤ pos (num * v i)) (pos 0)) +ℤ pos (num * sum_below n (λ i. cond (y i) (v i) (w i)))
    ≡ pos (den * sum_below n (λ i. cond (y i) (r i * v i) 0)) +ℤ pos (num * sum_below n (λ i. w i))
sums_at zero y r v w num den = omega (arith, ints)
sums_at (suc n) y r v w num den =
    let before = sums_at n y r v w num den in
    elim (y n) as (λ b. (int_sum_below n (λ i. cond (y i) (pos (den * (r i * v i) + num * w i) -ℤ pos (num * v i)) (pos 0)) +ℤ cond b (pos (den * (r n * v n) + num * w n) -ℤ pos (num * v n)) (pos 0))
    +ℤ pos (num * (sum_below n (λ i. cond (y i) (v i) (w i)) + cond b (v n) (w n)))
    ≡ pos (den * (sum_below n (λ i. cond (y i) (r i * v i) 0) + cond b (r n * v n) 0)) +ℤ pos (num * (sum_below n (λ i. w i) + w n)))
    [ true ↦ omega (arith, ints) | false ↦ omega (arith, ints) ]

-- At the revenue num / den an assortment is worth den times its gain less num times its weight.
pub worth_is : (p : ProblemData) (num den : ℕ) (y : List Bool)
    → worth_of p (prices_at p num den) y +ℤ pos (num * weight_of p (first_segment p) y) ≡ pos (den * gain_of p (first_segment p) y)
worth_is p num den y =
    let e = sums_at (product_count p) (offers y) (margin_of p) (attraction_of (first_segment p)) (shadow_of (first_segment p)) num den in
    omega (arith, ints)

-- The same for one segment, where what isn't offered weighs nothing or more.
pub sums_above : (n : ℕ) (y : ℕ → Bool) (r v w : ℕ → ℕ) (c u : ℕ)
    → pos (c * sum_below n (λ i. cond (y i) (r i * v i) 0))
    ≤ℤ (int_sum_below n (λ i. cond (y i) (pos (c * (r i * v i)) -ℤ pos (u * v i)) (pos 0)) +ℤ pos (u * sum_below n (λ i. cond (y i) (v i) (w i))))
sums_above zero y r v w c u = omega (arith, ints)
sums_above (suc n) y r v w c u =
    let before = sums_above n y r v w c u in
    elim (y n) as (λ b. pos (c * (sum_below n (λ i. cond (y i) (r i * v i) 0) + cond b (r n * v n) 0))
    ≤ℤ (int_sum_below n (λ i. cond (y i) (pos (c * (r i * v i)) -ℤ pos (u * v i)) (pos 0)) +ℤ cond b (pos (c * (r n * v n)) -ℤ pos (u * v n)) (pos 0)
    +ℤ pos (u * (sum_below n (λ i. cond (y i) (v i) (w i)) + cond b (v n) (w n)))))
    [ true ↦ omega (arith, ints) | false ↦ omega (arith, ints) ]

-- A quotient below a number plus one is at most the number.
pub quotient_le : (a u w : ℕ) → a < (u + 1) * w → a / w ≤ u
quotient_le a u zero h = absurd (omega arith)
quotient_le a u (suc w) h =
    let lt : a / suc w < u + 1 = (div-lt_iff_lt-mul {k = suc w} {x = a} {y = u + 1} (omega arith)).1 h in
    omega arith

-- A segment that is worth less than 0 above some units brings at most these.
pub segment_below : (p : ProblemData) (g : SegmentData) (u : ℕ) (node : List Mark) (y : List Bool) → Completes node y
    → greatest_worth p node (prices_above p g u) <ℤ pos 0 → g.size * p.unit * gain_of p g y / weight_of p g y ≤ u
segment_below p g u node y c h =
    let e = sums_above (product_count p) (offers y) (margin_of p) (attraction_of g) (shadow_of g) (g.size * p.unit) (u + 1) in
    let most = worth_of-le p (prices_above p g u) node y c in
    let lt : g.size * p.unit * gain_of p g y < (u + 1) * weight_of p g y = omega (arith, ints) in
    quotient_le (g.size * p.unit * gain_of p g y) u (weight_of p g y) lt

-- And all segments bring at most their sum.
pub segments_below : (p : ProblemData) (node : List Mark) (y : List Bool) (us : List ℕ) → Completes node y → SegmentsFit p node us → value_of p y ≤ segments_bound us
segments_below p node y us c h = rw (← h.each) (sum_le (length us) (λ k. segment_value p (segment_at p k) y) (λ k. slice_index us k)
    (λ k l. segment_below p (segment_at p k) (slice_index us k) node y c (h.below k l)))
