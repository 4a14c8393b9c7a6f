-- What is seen of the rows that were read. Own.
use Rattle.std.specs.Prelude.{◌≡◌, ℕ, ◌≤◌, take}
use Rattle.offer_model.specs.declared.ranges.TheConstants.{MOST_PRODUCTS}
use Rattle.table_reader.specs.Tables.{TableData}
use Rattle.catalogue_rows.specs.declared.product_rows.SeenNames.{SeenNames}
use Rattle.catalogue_rows.specs.Columns.{name_column, category_column, ladder_column}
use Rattle.catalogue_rows.specs.Names.{distinct_names}
use Rattle.catalogue_rows.specs.Cells.{texts_of}

-- There was a place for each of the first k data rows, and these are their names, their categories and their ladders.
pub record HasSeen (table : TableData) (k : ℕ) (seen : SeenNames) : Type 0 where
  pub few : k ≤ MOST_PRODUCTS
  pub names : seen.names ≡ take k (texts_of table name_column)
  pub categories : seen.categories ≡ distinct_names (take k (texts_of table category_column))
  pub ladders : seen.ladders ≡ distinct_names (take k (texts_of table ladder_column))
