use Rattle.std.proofs.Common.{◌≡◌, length, take}
use Rattle.proof_lines.specs.Acceptance.{digits_of}
use Rattle.proof_tree.proofs.digits.write_set.Given as goal

abbrev pub invariant-loop-i : goal.invariant-loop-i
invariant-loop-i l = record {
  each : length l.x ≡ length l.digits.items;
  written : digits_of (take l.i l.x) ≡ take l.i l.digits.items;
}
