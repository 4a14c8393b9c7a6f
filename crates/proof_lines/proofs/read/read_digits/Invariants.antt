use Rattle.std.proofs.Common.{◌≡◌, ◌+◌, length, map, take}
use Rattle.proof_lines.specs.Lines.{AreDigits}
use Rattle.proof_lines.proofs.read.read_digits.Given as goal

abbrev pub invariant-loop-byte : goal.invariant-loop-byte
invariant-loop-byte l = record {
  digits : AreDigits l.digits.items;
  text : map (λ d. 48 + d) l.digits.items ≡ take l.byte-index l.bytes;
  few : length l.digits.items ≡ l.byte-index;
  room : l.digits.spare + length l.digits.items ≡ l.initial.digits.spare;
}
