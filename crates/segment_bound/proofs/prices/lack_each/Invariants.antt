use Rattle.std.proofs.Common.{◌≡◌, length}
use Rattle.segment_bound.proofs.prices.lack_each.Given as goal

abbrev pub invariant-loop-r : goal.invariant-loop-r
invariant-loop-r l = length l.lacks ≡ length l.node
