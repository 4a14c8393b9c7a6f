-- What bounds keep from call to call, and which problems they fit. Own.
use Rattle.std.specs.Prelude.{◌≡◌, ℕ, ◌*◌, ◌≤◌, ◌<◌, ◌^◌, Bool, true, List, [], length, slice_index_or, slice_set}
use Rattle.std.specs.List.{All}
use Rattle.offer_model.specs.declared.node.Mark.{Mark}
use Rattle.offer_model.specs.declared.products.ModelName.TheVariants.{Mixed}
use Rattle.offer_model.specs.Problems.{SegmentData, ProblemData, attraction_of}
use Rattle.offer_model.specs.Nodes.{mark_at}
use Rattle.offer_model.specs.Validity.{IsProblem, IsSegment}
use Rattle.segment_bound.specs.declared.order.Ranked.{Ranked}
use Rattle.segment_bound.specs.declared.sums.Sums.{Sums}
use Rattle.segment_bound.specs.Orders.{IsOrder, listed_product}
use Rattle.segment_bound.specs.Sums.{AreSums, IsMoved}

-- Bounds as contracts see them: the products by falling margin, and the segments.
pub record BoundsData : Type 0 where
  pub order : List Ranked
  pub segments : List SegmentData

-- The bounds are those of the problem, which is one of mixed logit.
pub record Fits (p : ProblemData) (b : BoundsData) : Type 0 where
  pub valid : IsProblem p
  pub mixed : p.model ≡ Mixed
  pub order : IsOrder p b.order
  pub segments : b.segments ≡ p.segments

abbrev pub sums_at : List Sums → ℕ → Sums
sums_at sums k = slice_index_or sums k (record { gain = 0; weight = 0 })

abbrev pub listed_segment : List SegmentData → ℕ → SegmentData
listed_segment segments k = slice_index_or segments k (record { size = 0; none = 0; attract = []; shadow = [] })

-- The order is that of some problem.
pub record IsRanking (order : List Ranked) : Type 0 where
  pub problem : ProblemData
  pub valid : IsProblem problem
  pub ordered : IsOrder problem order

-- For each segment the sums of what is In at the node.
pub record IsKept (order : List Ranked) (segments : List SegmentData) (node : List Mark) (sums : List Sums) : Type 0 where
  pub ranking : IsRanking order
  pub long : length node ≡ length order
  pub attracts : All (λ g. length g.attract ≡ length order) segments
  pub valid : All IsSegment segments
  pub each : length sums ≡ length segments
  pub each_sum : (k : ℕ) → k < length segments → AreSums order (listed_segment segments k) node (sums_at sums k)

-- The sums are in their ranges, and hold the product where it is among what is summed.
pub record Holds (was : Bool) (margin attraction : ℕ) (s : Sums) : Type 0 where
  pub gain : s.gain ≤ 2 ^ 80
  pub weight : s.weight ≤ 2 ^ 60
  pub small : attraction ≤ 1000000000
  pub held_gain : was ≡ true → margin * attraction ≤ s.gain
  pub held_weight : was ≡ true → attraction ≤ s.weight

-- Each segment's sums hold the product.
abbrev pub AllHold : List SegmentData → Bool → Ranked → List Sums → Type 0
AllHold segments was q sums = (k : ℕ) → k < length sums → Holds was q.margin (attraction_of (listed_segment segments k) q.product) (sums_at sums k)

-- In each segment's sums the product is moved.
abbrev pub AllMoved : List SegmentData → Bool → Bool → Ranked → List Sums → List Sums → Type 0
AllMoved segments was now_is q sums moved = (k : ℕ) → k < length sums
    → IsMoved was now_is q (attraction_of (listed_segment segments k) q.product) (sums_at sums k) (sums_at moved k)

-- The last node with the mark that the node has at the product of rank r.
abbrev pub with_mark_of : List Mark → List Ranked → ℕ → List Mark → List Mark
with_mark_of node order r last = slice_set last (listed_product order r) (mark_at node (listed_product order r))

-- The product is one of n, and its margin is in its range.
abbrev pub IsListed : ℕ → Ranked → Type 0
IsListed n q = (q.product < n) × (q.margin ≤ 1000000000)

-- For each segment the sums where nothing is In.
pub record AreEmptySums (segments : List SegmentData) (sums : List Sums) : Type 0 where
  pub each : length sums ≡ length segments
  pub empty : (k : ℕ) → k < length segments → sums_at sums k ≡ record { gain = 0; weight = (listed_segment segments k).none }
