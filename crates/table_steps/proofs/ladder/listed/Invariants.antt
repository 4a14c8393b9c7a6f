use Rattle.std.proofs.Common.{◌≡◌, ◌+◌, ◌≤◌, length, take}
use Rattle.table_steps.proofs.ladder.listed.Given as goal

abbrev pub invariant-loop-number : goal.invariant-loop-number
invariant-loop-number l = record {
  items : l.us.items ≡ take l.number-index l.numbers;
  spare : length l.numbers ≤ l.us.spare + l.number-index;
}
