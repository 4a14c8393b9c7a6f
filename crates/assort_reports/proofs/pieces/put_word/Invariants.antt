use Rattle.std.proofs.Common.{◌≡◌, ◌+◌, ◌≤◌, ◌++◌, length, take, map}
use Rattle.assort_reports.specs.Reports.{digit_of}
use Rattle.assort_reports.proofs.pieces.put_word.Given as goal

abbrev pub invariant-loop-i : goal.invariant-loop-i
invariant-loop-i l = record {
  items : l.text.items ≡ l.initial.text.items ++ map digit_of (take l.i l.x);
  room : length l.x ≤ l.text.spare + l.i;
}
