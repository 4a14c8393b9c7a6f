use Rattle.std.proofs.Common.{◌≡◌}
use Rattle.segment_bound.specs.Slopes.{depths_of}
use Rattle.segment_bound.proofs.tangent.depths.Given as goal

abbrev pub invariant-loop-k : goal.invariant-loop-k
invariant-loop-k l = l.total ≡ depths_of l.sums l.slopes l.k
