use Rattle.std.proofs.Common.{ℕ, ◌<◌, ◌≤◌, ◌*◌}
use Rattle.segment_bound.specs.Slopes.{slope_at}
use Rattle.segment_bound.proofs.tangent.is_dear.Given as goal

abbrev pub invariant-loop-k : goal.invariant-loop-k
invariant-loop-k l = (j : ℕ) → j < l.k → (slope_at l.slopes j).share * l.margin ≤ (slope_at l.slopes j).units
