-- Slopes and what they make of a product are in their ranges.
use Rattle.std.proofs.Common.{◌≡◌, ℕ, ◌+◌, ◌*◌, ◌^◌, ◌<◌, ◌≤◌, Bool, true, false, cond, List, length, refl, arith}
use Rattle.std.specs.List.{AllPairs}
use Rattle.std.proofs.Math.Nat.{mul-le-mul, mul-le-mul_left}
use Rattle.offer_model.specs.declared.node.Mark.{Mark}
use Rattle.offer_model.specs.Assortments.{sum_below}
use Rattle.offer_model.specs.Problems.{SegmentData}
use Rattle.offer_model.specs.Nodes.{mark_at, is_open}
use Rattle.offer_model.proofs.SumLemmas.{sum_below_le, sum_le}
use Rattle.segment_bound.specs.declared.order.Ranked.{Ranked}
use Rattle.segment_bound.specs.declared.sums.Sums.{Sums}
use Rattle.segment_bound.specs.declared.tangent.Slope.{Slope}
use Rattle.segment_bound.specs.Orders.{Precedes, listed_at}
use Rattle.segment_bound.specs.Kept.{sums_at}
use Rattle.segment_bound.specs.Tangents.{parts}
use Rattle.segment_bound.specs.Slopes.{slope_at, parts_of, gains_of, costs_of, raise_of, open_raise, heights_of, depths_of, AreSmall, IsCheap, HasSmallParts, HaveSmallParts}
use Rattle.segment_bound.proofs.OrderLemmas.{margin_falls}
use Rattle.segment_bound.proofs.LinearLemmas.{term_below, parts_most, sum_of_two}

-- ---- One segment.

pub units_small : (slopes : List Slope) (k : ℕ) → AreSmall slopes → k < length slopes → (slope_at slopes k).units ≤ 10 ^ 18
units_small slopes k small l =
    let t = term_below (length slopes) k (λ j. (slope_at slopes j).units) l in
    let all = small.units in
    omega (arith, t, all)

pub share_small : (slopes : List Slope) (k : ℕ) → AreSmall slopes → k < length slopes → (slope_at slopes k).share ≤ 10 ^ 9
share_small slopes k small l =
    let t = term_below (length slopes) k (λ j. (slope_at slopes j).share) l in
    let all = small.shares in
    omega (arith, t, all)

pub product_small : (a b : ℕ) → a ≤ 10 ^ 9 → b ≤ 10 ^ 9 → a * b ≤ 10 ^ 18
product_small a b l m = let t = mul-le-mul l m in omega (arith, t)

-- ---- A product.

gain_most : (t s m : ℕ) → t ≤ parts → m ≤ 10 ^ 9 → t * (s * m) ≤ 2 ^ 60 * 10 ^ 9 * s
gain_most t s m l h =
    let a = mul-le-mul l h in
    let b : t * m * s ≤ 2 ^ 60 * 10 ^ 9 * s = mul-le-mul {n₁ = t * m} {m₁ = s} {n₂ = 2 ^ 60 * 10 ^ 9} {m₂ = s} (omega (arith, a)) (omega arith) in
    omega (arith, b)

cost_most : (t u : ℕ) → t ≤ parts → t * u ≤ 2 ^ 60 * u
cost_most t u l = mul-le-mul {n₁ = t} {m₁ = u} {n₂ = 2 ^ 60} {m₂ = u} l (omega arith)

part_of_sum : (n m M b : ℕ) (f u : ℕ → ℕ) → n ≤ m → ((k : ℕ) → k < m → f k ≤ M * u k) → sum_below m u ≤ b → sum_below n f ≤ M * b
part_of_sum n m M b f u l h s =
    let all = parts_most m M f u h in
    let part = sum_below_le n m f l in
    let top : M * sum_below m u ≤ M * b = mul-le-mul {n₁ = M} {m₁ = sum_below m u} {n₂ = M} {m₂ = b} (omega arith) s in
    omega (arith, all, part, top)

pub gains_most : (segments : List SegmentData) (slopes : List Slope) (q : Ranked) (n : ℕ) → AreSmall slopes → HasSmallParts segments slopes q → q.margin ≤ 10 ^ 9 → n ≤ length slopes
    → gains_of segments slopes q n ≤ 2 ^ 60 * 10 ^ 18
gains_most segments slopes q n small fit margin l =
    let t = part_of_sum n (length slopes) (2 ^ 60 * 10 ^ 9) (10 ^ 9) (λ k. parts_of segments slopes q k * ((slope_at slopes k).share * q.margin)) (λ k. (slope_at slopes k).share) l
    (λ k m. gain_most (parts_of segments slopes q k) (slope_at slopes k).share q.margin (fit k m) margin) small.shares in
    omega (arith, t)

pub costs_most : (segments : List SegmentData) (slopes : List Slope) (q : Ranked) (n : ℕ) → AreSmall slopes → HasSmallParts segments slopes q → n ≤ length slopes
    → costs_of segments slopes q n ≤ 2 ^ 60 * 10 ^ 18
costs_most segments slopes q n small fit l =
    part_of_sum n (length slopes) (2 ^ 60) (10 ^ 18) (λ k. parts_of segments slopes q k * (slope_at slopes k).units) (λ k. (slope_at slopes k).units) l
    (λ k m. cost_most (parts_of segments slopes q k) (slope_at slopes k).units (fit k m)) small.units

-- ---- Products that no segment gains by.

-- A product of a cheap margin raises nothing.
cheap_raise : (segments : List SegmentData) (slopes : List Slope) (q : Ranked) → IsCheap slopes q.margin → raise_of segments slopes q ≡ 0
cheap_raise segments slopes q cheap =
    let less = sum_le (length slopes) (λ k. parts_of segments slopes q k * ((slope_at slopes k).share * q.margin)) (λ k. parts_of segments slopes q k * (slope_at slopes k).units)
    (λ k l. mul-le-mul_left (parts_of segments slopes q k) (cheap k l)) in
    omega (arith, less)

cheaper : (slopes : List Slope) (m n : ℕ) → IsCheap slopes m → n ≤ m → IsCheap slopes n
cheaper slopes m n cheap l k inside =
    let a : (slope_at slopes k).share * n ≤ (slope_at slopes k).share * m = mul-le-mul_left (slope_at slopes k).share l in
    let b = cheap k inside in
    omega (arith, a, b)

-- From a cheap margin on nothing is raised, since margins fall.
pub cheap_after : (order : List Ranked) (segments : List SegmentData) (slopes : List Slope) (node : List Mark) (r : ℕ) → AllPairs Precedes order → r < length order → IsCheap slopes (listed_at order r).margin
    → (j : ℕ) → r ≤ j → j < length order → open_raise order segments slopes node j ≡ 0
cheap_after order segments slopes node r falling inside cheap j from below =
    let z = cheap_raise segments slopes (listed_at order j) (cheaper slopes (listed_at order r).margin (listed_at order j).margin cheap (margin_falls order r j falling from below)) in
    closed (is_open (mark_at node (listed_at order j).product)) (raise_of segments slopes (listed_at order j)) z
  where
    closed : (b : Bool) (v : ℕ) → v ≡ 0 → cond b v 0 ≡ 0
    closed true v e = e
    closed false v e = refl

-- ---- What is In.

height_most : (t w g s : ℕ) → t * w ≤ parts → g ≤ 1000000000 * w → t * (s * g) ≤ 2 ^ 60 * 10 ^ 9 * s
height_most t w g s l h =
    let a : t * g ≤ t * (1000000000 * w) = mul-le-mul {n₁ = t} {m₁ = g} {n₂ = t} {m₂ = 1000000000 * w} (omega arith) h in
    let m : t * g ≤ 2 ^ 60 * 10 ^ 9 = omega (arith, a, l) in
    let b : t * g * s ≤ 2 ^ 60 * 10 ^ 9 * s = mul-le-mul {n₁ = t * g} {m₁ = s} {n₂ = 2 ^ 60 * 10 ^ 9} {m₂ = s} m (omega arith) in
    omega (arith, b)

depth_most : (t w u : ℕ) → t * w ≤ parts → t * (u * w) ≤ 2 ^ 60 * u
depth_most t w u l = let b : t * w * u ≤ 2 ^ 60 * u = mul-le-mul {n₁ = t * w} {m₁ = u} {n₂ = 2 ^ 60} {m₂ = u} l (omega arith) in omega (arith, b)

pub heights_most : (sums : List Sums) (slopes : List Slope) (n : ℕ) → AreSmall slopes → HaveSmallParts sums slopes → n ≤ length slopes → heights_of sums slopes n ≤ 2 ^ 61 * 10 ^ 18
heights_most sums slopes n small fit l =
    let two = sum_of_two n (λ k. parts * (slope_at slopes k).units) (λ k. (slope_at slopes k).scale * ((slope_at slopes k).share * (sums_at sums k).gain)) in
    let own = part_of_sum n (length slopes) (2 ^ 60) (10 ^ 18) (λ k. parts * (slope_at slopes k).units) (λ k. (slope_at slopes k).units) l (λ k m. omega arith) small.units in
    let gains = part_of_sum n (length slopes) (2 ^ 60 * 10 ^ 9) (10 ^ 9) (λ k. (slope_at slopes k).scale * ((slope_at slopes k).share * (sums_at sums k).gain)) (λ k. (slope_at slopes k).share) l
    (λ k m. height_most (slope_at slopes k).scale (sums_at sums k).weight (sums_at sums k).gain (slope_at slopes k).share (fit.scaled k m) (fit.gains k m)) small.shares in
    omega (arith, two, own, gains)

pub depths_most : (sums : List Sums) (slopes : List Slope) (n : ℕ) → AreSmall slopes → HaveSmallParts sums slopes → n ≤ length slopes → depths_of sums slopes n ≤ 2 ^ 60 * 10 ^ 18
depths_most sums slopes n small fit l =
    part_of_sum n (length slopes) (2 ^ 60) (10 ^ 18) (λ k. (slope_at slopes k).scale * ((slope_at slopes k).units * (sums_at sums k).weight)) (λ k. (slope_at slopes k).units) l
    (λ k m. depth_most (slope_at slopes k).scale (sums_at sums k).weight (slope_at slopes k).units (fit.scaled k m)) small.units

-- ---- Steps of loops, from what the calls answered.

pub height_within : (total d P' u' t' s' P u t s g M : ℕ) → total ≡ d → P' ≡ P → u' ≡ u → t' ≡ t → s' ≡ s → d + (P * u + t * (s * g)) ≤ M → total + (P' * u' + t' * (s' * g)) ≤ M
height_within total d P' u' t' s' P u t s g M e f h i j l = rw (e, f, h, i, j) l

pub height_is : (P' u' t' s' P u t s g : ℕ) → P' ≡ P → u' ≡ u → t' ≡ t → s' ≡ s → P' * u' + t' * (s' * g) ≡ P * u + t * (s * g)
height_is P' u' t' s' P u t s g f h i j = rw (f, h, i, j) refl

pub depth_is : (a x t u w : ℕ) → a ≡ t * w → x ≡ u → a * x ≡ t * (u * w)
depth_is a x t u w e f = rw (e, f) (omega arith)

pub product_is : (a x t y : ℕ) → a ≡ t → x ≡ y → a * x ≡ t * y
product_is a x t y e f = rw (e, f) refl
