use Rattle.std.proofs.Common.{◌≡◌, ◌+◌, drop, slice_index}
use Rattle.chain_moves.specs.Rows.{sum_moves}
use Rattle.chain_moves.proofs.rows.sum_moves.Given as goal

abbrev pub invariant-loop-m : goal.invariant-loop-m
invariant-loop-m l = l.sum + sum_moves (drop l.m-index l.row) (slice_index l.values) ≡ sum_moves l.row (slice_index l.values)
