-- What an assortment earns: which of two earns more by the ratio of gain and weight, and how great these are.
use Rattle.std.proofs.Common.{ℕ, zero, suc, ◌*◌, ◌^◌, ◌<◌, ◌≤◌, Bool, true, false, cond, List, [], length, arith}
use Rattle.std.proofs.lemmas.List.Elements.{All-get_or}
use Rattle.std.proofs.Math.Nat.{mul-le-mul, mul-le-mul_left, mul-le-mul_right, div-le_of_le-mul}
use Rattle.offer_model.specs.Assortments.{offers, sum_below}
use Rattle.offer_model.specs.Ranges.{gain_bound, weight_bound}
use Rattle.offer_model.specs.declared.products.ModelName.{ModelName}
use Rattle.offer_model.specs.declared.products.ModelName.TheVariants.{Logit, Attract, Mixed, Chain}
use Rattle.offer_model.specs.Problems.{SegmentData, ProblemData, segment_at, product_count, margin_of, attraction_of, shadow_of, first_segment, no_product}
use Rattle.offer_model.specs.Validity.{IsProblem, IsProduct, IsSegment, IsRatioModel}
use Rattle.offer_model.specs.Revenue.{gain_of, weight_of, own_gain, own_weight, segment_value, value_of, EarnsMoreByRatio, EarnsMoreUnder}
use Rattle.offer_model.proofs.SumLemmas.{sum_most, sum_below_le, sum_below-items}

-- Under logit and generalised attraction what earns more has the greater ratio.
pub ratio_from_earns : (m : ModelName) (p : ProblemData) (x y : List Bool) → IsRatioModel m → EarnsMoreUnder m p x y → EarnsMoreByRatio p x y
ratio_from_earns Logit p x y r h = h
ratio_from_earns Attract p x y r h = h
ratio_from_earns Mixed p x y r h = absurd r
ratio_from_earns Chain p x y r h = absurd r

-- And what has the greater ratio earns more.
pub earns_from_ratio : (m : ModelName) (p : ProblemData) (x y : List Bool) → IsRatioModel m → EarnsMoreByRatio p x y → EarnsMoreUnder m p x y
earns_from_ratio Logit p x y r h = h
earns_from_ratio Attract p x y r h = h
earns_from_ratio Mixed p x y r h = absurd r
earns_from_ratio Chain p x y r h = absurd r

-- ---- Sizes.

either : (b : Bool) (m n c : ℕ) → m ≤ c → n ≤ c → cond b m n ≤ c
either true m n c h k = h
either false m n c h k = k

first_is_segment : (p : ProblemData) → IsProblem p → IsRatioModel p.model → IsSegment (first_segment p)
first_is_segment p valid model =
    let one = (valid.single model).1 in
    All-get_or IsSegment p.segments 0 _ (omega arith) valid.segments

-- A margin is in its range.
pub margin_most : (p : ProblemData) (i : ℕ) → IsProblem p → i < product_count p → margin_of p i ≤ 1000000000
margin_most p i valid inside = (All-get_or IsProduct p.products i no_product inside valid.products).margin

-- Gains are below their bound.
pub own_gain-small : (p : ProblemData) (y : List Bool) → IsProblem p → IsRatioModel p.model → own_gain p y < gain_bound
own_gain-small p y valid model =
    let g = first_is_segment p valid model in
    let all = sum_most (product_count p) (1000000000 * 1000000000) (λ i. cond (offers y i) (margin_of p i * attraction_of (first_segment p) i) 0)
    (λ i l. either (offers y i) _ _ _ (mul-le-mul (margin_most p i valid l) (g.attraction i)) (omega arith)) in
    let few = valid.few in
    omega arith

-- So are weights.
pub own_weight-small : (p : ProblemData) (y : List Bool) → IsProblem p → IsRatioModel p.model → own_weight p y < weight_bound
own_weight-small p y valid model =
    let g = first_is_segment p valid model in
    let all = sum_most (product_count p) 1000000000 (λ i. cond (offers y i) (attraction_of (first_segment p) i) (shadow_of (first_segment p) i))
    (λ i l. let a = g.attraction i in let s = g.shadow i in either (offers y i) _ _ _ a (omega arith)) in
    let few = valid.few in
    let none = g.none.1 in
    omega arith

-- Weights are above 0.
pub own_weight-positive : (p : ProblemData) (y : List Bool) → IsProblem p → IsRatioModel p.model → 0 < own_weight p y
own_weight-positive p y valid model =
    let g = first_is_segment p valid model in
    let none = g.none.0 in
    omega arith

-- ---- Mixed logit.

-- What a product adds to the gain is at most the greatest margin times what it adds to the weight.
gain_term : (b : Bool) (r v w : ℕ) → r ≤ 1000000000 → cond b (r * v) 0 ≤ 1000000000 * cond b v w
gain_term true r v w h = mul-le-mul_right v h
gain_term false r v w h = omega arith

gain_terms : (n : ℕ) (y : ℕ → Bool) (r v w : ℕ → ℕ) → ((i : ℕ) → i < n → r i ≤ 1000000000)
    → sum_below n (λ i. cond (y i) (r i * v i) 0) ≤ 1000000000 * sum_below n (λ i. cond (y i) (v i) (w i))
gain_terms zero y r v w h = omega arith
gain_terms (suc n) y r v w h =
    let before = gain_terms n y r v w (λ i l. h i (omega arith)) in
    let here = gain_term (y n) (r n) (v n) (w n) (h n (omega arith)) in
    omega (arith, before, here)

-- A gain is at most the greatest margin times the weight.
pub gain_of-most : (p : ProblemData) (g : SegmentData) (y : List Bool) → IsProblem p → gain_of p g y ≤ 1000000000 * weight_of p g y
gain_of-most p g y valid =
    let terms = gain_terms (product_count p) (offers y) (margin_of p) (attraction_of g) (shadow_of g) (λ i l. margin_most p i valid l) in
    omega (arith, terms)

-- A segment of a problem is in its ranges.
pub segment_at-valid : (p : ProblemData) (k : ℕ) → IsProblem p → k < length p.segments → IsSegment (segment_at p k)
segment_at-valid p k valid inside = All-get_or IsSegment p.segments k _ inside valid.segments

-- Weights of a segment are above 0.
pub weight_of-positive : (p : ProblemData) (g : SegmentData) (y : List Bool) → IsSegment g → 0 < weight_of p g y
weight_of-positive p g y valid = let none = valid.none.0 in omega arith

-- What an assortment brings in a segment is at most the segment's share, size times unit, times the greatest margin.
pub segment_value-most : (p : ProblemData) (g : SegmentData) (y : List Bool) → IsProblem p → segment_value p g y ≤ g.size * p.unit * 1000000000
segment_value-most p g y valid =
    let most = mul-le-mul_left (g.size * p.unit) (gain_of-most p g y valid) in
    div-le_of_le-mul (weight_of p g y) (omega (arith, most))

-- The shares of the first k segments.
abbrev pub shares_below : ProblemData → ℕ → ℕ
shares_below p k = sum_below k (λ j. (segment_at p j).size * p.unit)

-- They are at most a thousand millions.
pub shares_below-most : (p : ProblemData) (k : ℕ) → IsProblem p → k ≤ length p.segments → shares_below p k ≤ 1000000000
shares_below-most p k valid inside =
    let all = sum_below-items (λ (g : SegmentData). g.size * p.unit) p.segments (record { size = 0; none = 0; attract = []; shadow = [] }) in
    let part = sum_below_le k (length p.segments) (λ j. (segment_at p j).size * p.unit) inside in
    let sizes = valid.sizes in
    omega (arith, all, part, sizes)

-- So is each one.
pub share_most : (p : ProblemData) (k : ℕ) → IsProblem p → k < length p.segments → (segment_at p k).size * p.unit ≤ 1000000000
share_most p k valid inside = let all = shares_below-most p (suc k) valid (omega arith) in omega (arith, all)

-- Numbers that are at most the shares times the greatest margin sum to at most 10 ^ 18.
pub share_sum-most : (p : ProblemData) (k : ℕ) (f : ℕ → ℕ) → IsProblem p → k ≤ length p.segments
    → ((j : ℕ) → j < k → f j ≤ (segment_at p j).size * p.unit * 1000000000)
    → sum_below k f ≤ 10 ^ 18
share_sum-most p k f valid inside each =
    let all = shares_below-most p k valid inside in
    let terms = sums k (λ j l. each j l) in
    omega (arith, all, terms)
  where
    sums : (n : ℕ) → ((j : ℕ) → j < n → f j ≤ (segment_at p j).size * p.unit * 1000000000) → sum_below n f ≤ shares_below p n * 1000000000
    sums zero h = omega arith
    sums (suc n) h =
        let before = sums n (λ j l. h j (omega arith)) in
        let here = h n (omega arith) in
        omega (arith, before, here)

-- What an assortment brings in the first k segments is at most 10 ^ 18.
pub value_below-most : (p : ProblemData) (k : ℕ) (y : List Bool) → IsProblem p → k ≤ length p.segments
    → sum_below k (λ j. segment_value p (segment_at p j) y) ≤ 10 ^ 18
value_below-most p k y valid inside =
    share_sum-most p k (λ j. segment_value p (segment_at p j) y) valid inside (λ j l. segment_value-most p (segment_at p j) y valid)

-- And in all of them.
pub value_of-most : (p : ProblemData) (y : List Bool) → IsProblem p → value_of p y ≤ 10 ^ 18
value_of-most p y valid = value_below-most p (length p.segments) y valid (omega arith)

-- What it brings in one segment is too.
pub segment_value-small : (p : ProblemData) (k : ℕ) (y : List Bool) → IsProblem p → k < length p.segments → segment_value p (segment_at p k) y ≤ 10 ^ 18
segment_value-small p k y valid inside =
    let most = segment_value-most p (segment_at p k) y valid in
    let share = share_most p k valid inside in
    omega (arith, most, share)
