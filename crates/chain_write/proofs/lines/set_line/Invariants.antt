use Rattle.std.proofs.Common.{◌≡◌, ◌+◌, ◌≤◌, take}
use Rattle.proof_lines.specs.Acceptance.{digits_of}
use Rattle.chain_write.proofs.lines.set_line.Given as goal

abbrev pub invariant-loop-i : goal.invariant-loop-i
invariant-loop-i l = record {
  digits : l.numbers.items ≡ digits_of (take l.i l.set);
  room : l.products ≤ l.numbers.spare + l.i;
}
