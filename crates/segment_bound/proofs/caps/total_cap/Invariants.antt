use Rattle.std.proofs.Common.{◌≡◌, drop}
use Rattle.segment_bound.specs.Tangents.{total_cap}
use Rattle.segment_bound.proofs.caps.total_cap.Given as goal

abbrev pub invariant-loop-k : goal.invariant-loop-k
invariant-loop-k l = total_cap (drop l.k l.limits.items) l.cap ≡ total_cap l.limits.items l.n
