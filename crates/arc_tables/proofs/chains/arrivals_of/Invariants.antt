use Rattle.std.proofs.Common.{◌≡◌, ◌+◌, ◌≤◌, length, map, take}
use Rattle.catalogue_rows.specs.Rows.{RowData}
use Rattle.arc_tables.proofs.chains.arrivals_of.Given as goal

abbrev pub invariant-loop-row : goal.invariant-loop-row
invariant-loop-row l = record {
  items : l.list.items ≡ map (λ (row : RowData). row.arrival) (take l.row-index l.rows);
  room : length l.rows ≤ l.list.spare + l.row-index;
}
