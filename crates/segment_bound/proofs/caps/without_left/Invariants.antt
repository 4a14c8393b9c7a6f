use Rattle.std.proofs.Common.{◌≡◌, ◌-◌, drop}
use Rattle.segment_bound.specs.Tangents.{left_out}
use Rattle.segment_bound.proofs.caps.without_left.Given as goal

abbrev pub invariant-loop-k : goal.invariant-loop-k
invariant-loop-k l = l.most - left_out l.p (drop l.k l.limits.items) ≡ l.n - left_out l.p l.limits.items
