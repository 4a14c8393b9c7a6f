use Rattle.std.proofs.Common.{◌≡◌, ◌<◌, ℕ, None, map}
use Rattle.std.specs.List.{range_with_len}
use Rattle.catalogue_rows.specs.ProductTables.{product_fault, product_row}
use Rattle.catalogue_rows.specs.SeenNames.{HasSeen}
use Rattle.catalogue_rows.proofs.products.read_rows.Given as goal

-- no row so far has a fault, and the rows and names are theirs
abbrev pub invariant-rows : goal.invariant-rows
invariant-rows l = record {
  clean : (j : ℕ) → j < l.k → product_fault l.model l.table j ≡ None;
  rows : l.rows.items ≡ map (product_row l.table) (range_with_len 0 l.k);
  seen : HasSeen l.table l.k l.seen;
}
