use Rattle.std.proofs.Common.{ℕ, ◌<◌, ◌≤◌, ◌*◌}
use Rattle.segment_bound.specs.Kept.{sums_at}
use Rattle.segment_bound.specs.Tangents.{units_at, share_at}
use Rattle.segment_bound.proofs.bounds.are_reached.Given as goal

abbrev pub invariant-loop-k : goal.invariant-loop-k
invariant-loop-k l = (j : ℕ) → j < l.k → units_at l.p l.node j * (sums_at l.sums j).weight ≤ share_at l.p j * (sums_at l.sums j).gain
