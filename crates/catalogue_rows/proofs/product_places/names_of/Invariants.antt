use Rattle.std.proofs.Common.{◌≡◌, map, take}
use Rattle.catalogue_rows.specs.Rows.{RowData}
use Rattle.catalogue_rows.proofs.product_places.names_of.Given as goal

abbrev pub invariant-rows : goal.invariant-rows
invariant-rows l = l.names ≡ map (λ (row : RowData). row.name) (take l.row-index l.rows)
