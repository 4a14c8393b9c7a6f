use Rattle.std.proofs.Common.{◌≡◌, ◌+◌, ◌++◌, length, drop}
use Rattle.proof_lines.specs.Lines.{spaced}
use Rattle.proof_lines.proofs.print.push_spaced.Given as goal

abbrev pub invariant-loop-k : goal.invariant-loop-k
invariant-loop-k l = record {
  items : l.out.items ++ spaced (drop l.k l.numbers.items) ≡ l.initial.out.items ++ spaced l.numbers.items;
  spare : l.out.spare + length (spaced l.numbers.items) ≡ l.initial.out.spare + length (spaced (drop l.k l.numbers.items));
}
