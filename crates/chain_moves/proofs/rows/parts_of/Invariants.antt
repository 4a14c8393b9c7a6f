use Rattle.std.proofs.Common.{◌≡◌, ◌+◌, drop}
use Rattle.chain_moves.specs.Rows.{sum_moves}
use Rattle.chain_moves.proofs.rows.parts_of.Given as goal

abbrev pub invariant-loop-m : goal.invariant-loop-m
invariant-loop-m l = l.sum + sum_moves (drop l.m-index l.row) (λ j. 1) ≡ sum_moves l.row (λ j. 1)
