-- What the tangent at a node takes of each segment, and what a product adds to it. Own.
use Rattle.std.specs.Prelude.{◌≡◌, ℕ, ◌+◌, ◌-◌, ◌*◌, ◌≤◌, ◌<◌, ◌^◌, cond, List, length, slice_index_or}
use Rattle.offer_model.specs.declared.node.Mark.{Mark}
use Rattle.offer_model.specs.Assortments.{sum_below}
use Rattle.offer_model.specs.Problems.{ProblemData, SegmentData, attraction_of}
use Rattle.offer_model.specs.Nodes.{mark_at, is_open}
use Rattle.segment_bound.specs.declared.order.Ranked.{Ranked}
use Rattle.segment_bound.specs.declared.sums.Sums.{Sums}
use Rattle.segment_bound.specs.declared.tangent.Slope.{Slope}
use Rattle.segment_bound.specs.Orders.{listed_at}
use Rattle.segment_bound.specs.Kept.{sums_at, listed_segment}
use Rattle.segment_bound.specs.Tangents.{parts, units_at, scale_at, share_at}

-- The slope is that of segment k at the node.
pub record IsSlope (p : ProblemData) (node : List Mark) (k : ℕ) (s : Slope) : Type 0 where
  pub units : s.units ≡ units_at p node k
  pub share : s.share ≡ share_at p k
  pub scale : s.scale ≡ scale_at p node k

abbrev pub slope_at : List Slope → ℕ → Slope
slope_at slopes k = slice_index_or slopes k (record { units = 0; share = 0; scale = 0 })

-- One slope for each segment.
pub record AreSlopes (p : ProblemData) (node : List Mark) (slopes : List Slope) : Type 0 where
  pub each : length slopes ≡ length p.segments
  pub slope : (k : ℕ) → k < length p.segments → IsSlope p node k (slope_at slopes k)

-- By rank, the attractions of what is Open, and 0 elsewhere.
abbrev pub open_attraction : List Ranked → SegmentData → List Mark → ℕ → ℕ
open_attraction order g node r = cond (is_open (mark_at node (listed_at order r).product)) (attraction_of g (listed_at order r).product) 0

-- The parts that stand for the product's weight in segment k.
abbrev pub parts_of : List SegmentData → List Slope → Ranked → ℕ → ℕ
parts_of segments slopes q k = (slope_at slopes k).scale * attraction_of (listed_segment segments k) q.product

-- What the product gains in the first n segments, and what its weight costs there.
abbrev pub gains_of : List SegmentData → List Slope → Ranked → ℕ → ℕ
gains_of segments slopes q n = sum_below n (λ k. parts_of segments slopes q k * ((slope_at slopes k).share * q.margin))

abbrev pub costs_of : List SegmentData → List Slope → Ranked → ℕ → ℕ
costs_of segments slopes q n = sum_below n (λ k. parts_of segments slopes q k * (slope_at slopes k).units)

-- What offering the product raises the tangent by, and 0 where it would lower it.
abbrev pub raise_of : List SegmentData → List Slope → Ranked → ℕ
raise_of segments slopes q = gains_of segments slopes q (length slopes) - costs_of segments slopes q (length slopes)

-- By rank, what offering raises the tangent by, where the product is Open.
abbrev pub open_raise : List Ranked → List SegmentData → List Slope → List Mark → ℕ → ℕ
open_raise order segments slopes node r = cond (is_open (mark_at node (listed_at order r).product)) (raise_of segments slopes (listed_at order r)) 0

-- The tangent where nothing Open is offered, in the first n segments: what speaks for it, and what against.
abbrev pub heights_of : List Sums → List Slope → ℕ → ℕ
heights_of sums slopes n = sum_below n (λ k. parts * (slope_at slopes k).units + (slope_at slopes k).scale * ((slope_at slopes k).share * (sums_at sums k).gain))

abbrev pub depths_of : List Sums → List Slope → ℕ → ℕ
depths_of sums slopes n = sum_below n (λ k. (slope_at slopes k).scale * ((slope_at slopes k).units * (sums_at sums k).weight))

-- What is In alone brings each segment's greatest value.
abbrev pub AreReached : ProblemData → List Mark → List Sums → Type 0
AreReached p node sums = (k : ℕ) → k < length p.segments → units_at p node k * (sums_at sums k).weight ≤ share_at p k * (sums_at sums k).gain

-- No segment gives the margin a gain above what the weight costs.
abbrev pub IsCheap : List Slope → ℕ → Type 0
IsCheap slopes margin = (k : ℕ) → k < length slopes → (slope_at slopes k).share * margin ≤ (slope_at slopes k).units

-- The slopes are in their ranges.
pub record AreSmall (slopes : List Slope) : Type 0 where
  pub units : sum_below (length slopes) (λ k. (slope_at slopes k).units) ≤ 10 ^ 18
  pub shares : sum_below (length slopes) (λ k. (slope_at slopes k).share) ≤ 10 ^ 9

-- The product's weight stands for at most a unit in each segment.
abbrev pub HasSmallParts : List SegmentData → List Slope → Ranked → Type 0
HasSmallParts segments slopes q = (k : ℕ) → k < length slopes → parts_of segments slopes q k ≤ parts

-- So does the weight of what is In, and no gain is above the greatest margin.
pub record HaveSmallParts (sums : List Sums) (slopes : List Slope) : Type 0 where
  pub scaled : (k : ℕ) → k < length slopes → (slope_at slopes k).scale * (sums_at sums k).weight ≤ parts
  pub gains : (k : ℕ) → k < length slopes → (sums_at sums k).gain ≤ 1000000000 * (sums_at sums k).weight
  pub small : (k : ℕ) → k < length slopes → (sums_at sums k).gain ≤ 256 * 10 ^ 18
