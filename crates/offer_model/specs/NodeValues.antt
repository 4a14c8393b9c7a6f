-- What a node's completions bring in the segments of mixed logit, with limits left aside. Own.
use Rattle.std.specs.Prelude.{◌≡◌, ℕ, ◌<◌, ◌≤◌, Bool, List, length, slice_index}
use Rattle.offer_model.specs.declared.node.Mark.{Mark}
use Rattle.offer_model.specs.Problems.{SegmentData, ProblemData, segment_at}
use Rattle.offer_model.specs.Revenue.{segment_value}
use Rattle.offer_model.specs.Nodes.{Completes}

-- Some completion brings this in the segment, and none brings more.
pub record IsGreatestValue (p : ProblemData) (g : SegmentData) (node : List Mark) (value : ℕ) : Type 0 where
  pub reached : (y : List Bool) × Completes node y × (segment_value p g y ≡ value)
  pub most : (y : List Bool) → Completes node y → segment_value p g y ≤ value

-- One number for each segment, the greatest value there.
pub record AreGreatestValues (p : ProblemData) (node : List Mark) (values : List ℕ) : Type 0 where
  pub each : length values ≡ length p.segments
  pub greatest : (k : ℕ) → k < length values → IsGreatestValue p (segment_at p k) node (slice_index values k)
