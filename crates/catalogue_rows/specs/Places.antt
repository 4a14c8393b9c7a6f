-- Products by their names. Own.
use Rattle.std.specs.Prelude.{ℕ, List, map, position, Option}
use Rattle.std.specs.Str.{bytes_eq}
use Rattle.catalogue_rows.specs.Rows.{RowData}

-- The place of the product of a name in catalogue order, from 0.
abbrev pub product_named : List RowData → List ℕ → Option ℕ
product_named rows text = position (bytes_eq text) (map (λ row. row.name) rows)
