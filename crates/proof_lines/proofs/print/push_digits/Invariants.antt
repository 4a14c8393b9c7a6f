use Rattle.std.proofs.Common.{◌≡◌, ◌+◌, ◌++◌, map, take}
use Rattle.proof_lines.proofs.print.push_digits.Given as goal

abbrev pub invariant-loop-k : goal.invariant-loop-k
invariant-loop-k l = record {
  items : l.out.items ≡ l.initial.out.items ++ map (λ d. 48 + d) (take l.k l.digits.items);
  spare : l.out.spare + l.k ≡ l.initial.out.spare;
}
