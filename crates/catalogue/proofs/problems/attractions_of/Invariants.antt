use Rattle.std.proofs.Common.{◌≡◌, ◌+◌, ◌≤◌, length, map, take}
use Rattle.catalogue_rows.specs.Rows.{RowData}
use Rattle.catalogue.proofs.problems.attractions_of.Given as goal

abbrev pub invariant-loop-i : goal.invariant-loop-i
invariant-loop-i l = record {
  items : l.list.items ≡ map (λ (row : RowData). row.attraction) (take l.i l.c);
  room : length l.c ≤ l.list.spare + l.i;
}
