use Rattle.std.proofs.Common.{◌≡◌, ◌+◌, ◌≤◌, length, take}
use Rattle.proof_lines.specs.Acceptance.{digits_of}
use Rattle.proof_write.proofs.header.set_line.Given as goal

abbrev pub invariant-loop-i : goal.invariant-loop-i
invariant-loop-i l = record {
  digits : l.numbers.items ≡ digits_of (take l.i l.x);
  room : length l.x ≤ l.numbers.spare + l.i;
}
