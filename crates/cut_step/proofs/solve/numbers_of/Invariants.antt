use Rattle.std.proofs.Common.{◌≡◌, ◌≤◌, ◌+◌, length}
use Rattle.std.proofs.Common.{take}
use Rattle.cut_step.proofs.solve.numbers_of.Given as goal

abbrev pub invariant-loop-amount : goal.invariant-loop-amount
invariant-loop-amount l = record {
  done : l.numbers.items ≡ take l.amount-index l.amounts;
  room : length l.amounts ≤ l.numbers.spare + l.amount-index;
}
