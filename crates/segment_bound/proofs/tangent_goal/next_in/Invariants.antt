use Rattle.std.proofs.Common.{◌≡◌, drop}
use Rattle.segment_bound.specs.Tangents.{next_in}
use Rattle.segment_bound.proofs.tangent_goal.next_in.Given as goal

abbrev pub invariant-loop-i : goal.invariant-loop-i
invariant-loop-i l = next_in l.p l.node (drop l.i-index l.order) ≡ next_in l.p l.node l.order
