use Rattle.std.proofs.Common.{◌≡◌, ◌+◌, ◌≤◌, length, take}
use Rattle.proof_lines.specs.declared.line.Shape.TheVariants as S
use Rattle.proof_write.proofs.mixed_rule.refill.Given as goal

abbrev pub invariant-loop-k : goal.invariant-loop-k
invariant-loop-k l = record {
  shape : l.leaf.shape ≡ S.Segments;
  items : l.leaf.numbers.items ≡ take l.k l.values;
  room : l.leaf.numbers.spare + l.k ≡ l.initial.leaf.numbers.spare + length l.initial.leaf.numbers.items;
  few : length l.values ≤ l.initial.leaf.numbers.spare + length l.initial.leaf.numbers.items;
}
