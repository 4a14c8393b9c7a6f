use Rattle.std.proofs.Common.{◌≡◌, ◌+◌, ◌≤◌, take}
use Rattle.chain_write.proofs.lines.vector_line.Given as goal

abbrev pub invariant-loop-i : goal.invariant-loop-i
invariant-loop-i l = record {
  numbers : l.numbers.items ≡ take l.i l.values.items;
  room : l.products ≤ l.numbers.spare + l.i;
}
