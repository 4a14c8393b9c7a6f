use Rattle.std.proofs.Common.{◌≡◌, ℕ, ◌+◌, ◌-◌, ◌≤◌, ◌++◌, List, length, drop}
use Rattle.proof_lines.specs.Lines.{spaced, AreNumbers}
use Rattle.proof_lines.proofs.read.read_spaced.Given as goal

abbrev pub invariant-loop-at : goal.invariant-loop-at
invariant-loop-at l = record {
  inside : l.at ≤ length l.bytes;
  numbers : AreNumbers l.numbers.items;
  text : spaced l.numbers.items ++ drop l.at l.bytes ≡ l.bytes;
  left : (ns : List ℕ) → AreNumbers ns → spaced ns ≡ l.bytes → (ms : List ℕ) × AreNumbers ms × (spaced ms ≡ drop l.at l.bytes);
  room : l.numbers.spare + length l.numbers.items ≡ l.initial.numbers.spare;
  few : length l.numbers.items ≤ l.at;
}

abbrev pub decreases-loop-at : goal.decreases-loop-at
decreases-loop-at l = length l.bytes - l.at
