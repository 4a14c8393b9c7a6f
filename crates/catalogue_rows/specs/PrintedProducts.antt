-- A catalogue as a products file. Own.
use Rattle.std.specs.Prelude.{◌≡◌, ℕ, ◌<◌, false, List, [], ◌∷◌, map, sum_by, decimal, Some, Vec, Ok}
use Rattle.std.specs.List.{concat}
use Rattle.std.specs.declared.alloc.Global.{Global}
use Rattle.csv.specs.Writing.{default_writer, row_text, writer_setup, fields_written, has_written, text_written}
use Rattle.csv.specs.declared.writer.Writer.{Writer}
use Rattle.offer_model.specs.declared.products.ModelName.TheVariants.{Logit, Attract, Mixed, Chain}
use Rattle.catalogue_rows.specs.Rows.{RowData, KeepsShadows}
use Rattle.catalogue_rows.specs.ProductTables.{product_columns, products_outcome}

-- A row's fields in the order of the columns.
abbrev pub product_fields : RowData → List (List ℕ)
product_fields row =
    row.name ∷ decimal row.product.margin ∷ decimal row.attraction ∷ decimal row.shadow ∷ row.category
    ∷ decimal row.product.space ∷ decimal row.product.price ∷ row.ladder ∷ decimal row.product.grade ∷ decimal row.arrival ∷ []

-- The header and the rows as csv writes them by default, each with a line feed.
abbrev pub products_text : List RowData → List ℕ
products_text rows = concat (map (row_text default_writer) (product_columns ∷ map product_fields rows))

-- A writer of csv's defaults that stands between two records, and the text that it has written.
pub record HasWritten (writer : Writer (Vec ℕ Global)) (text : List ℕ) : Type 0 where
  pub setup : writer_setup writer ≡ default_writer
  pub between : fields_written writer ≡ 0
  pub clean : has_written writer ≡ false
  pub holds : text_written (λ bytes. Some bytes.items) writer ≡ Some text

-- The text gives the rows again: under logit and mixed logit, where no shadow is above its attraction under generalised
-- attraction, and where somebody arrives under a chain.
pub record ReadsBack (rows : List RowData) (text : List ℕ) : Type 0 where
  pub logit : products_outcome Logit text ≡ Ok rows
  pub mixed : products_outcome Mixed text ≡ Ok rows
  pub attract : KeepsShadows rows → products_outcome Attract text ≡ Ok rows
  pub chain : 0 < sum_by (λ row. row.arrival) rows → products_outcome Chain text ≡ Ok rows
