-- The row that the cells of a data row give. Own.
use Rattle.std.specs.Prelude.{ℕ}
use Rattle.catalogue_rows.specs.declared.product_cells.Cells.{Cells}
use Rattle.catalogue_rows.specs.Rows.{RowData}

-- The row of these cells, with the numbers of its category and its ladder.
abbrev pub row_of : Cells → ℕ → ℕ → RowData
row_of cells category ladder = record {
  name = cells.name.now;
  product = record {
    margin = cells.margin;
    category = category;
    space = cells.space;
    price = cells.price;
    ladder = ladder;
    grade = cells.grade;
  };
  attraction = cells.attraction;
  shadow = cells.shadow;
  arrival = cells.arrival;
  category = cells.category.now;
  ladder = cells.ladder.now;
}
