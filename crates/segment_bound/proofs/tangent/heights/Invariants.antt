use Rattle.std.proofs.Common.{◌≡◌}
use Rattle.segment_bound.specs.Slopes.{heights_of}
use Rattle.segment_bound.proofs.tangent.heights.Given as goal

abbrev pub invariant-loop-k : goal.invariant-loop-k
invariant-loop-k l = l.total ≡ heights_of l.sums l.slopes l.k
