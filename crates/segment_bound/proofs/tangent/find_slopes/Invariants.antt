use Rattle.std.proofs.Common.{◌≡◌, ℕ, ◌<◌, length}
use Rattle.segment_bound.specs.Slopes.{IsSlope, slope_at}
use Rattle.segment_bound.proofs.tangent.find_slopes.Given as goal

abbrev pub invariant-loop-k : goal.invariant-loop-k
invariant-loop-k l = record {
  each : length l.slopes ≡ length l.p.segments;
  slope : (j : ℕ) → j < l.k → IsSlope l.p l.node j (slope_at l.slopes j);
}
