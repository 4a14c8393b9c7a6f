-- A catalogue's rows. Own.
use Rattle.std.specs.Prelude.{◌≡◌, ◌⊎◌, ℕ, ◌≤◌, ◌≢◌, List, [], length, map, IsTrue, All, AllPairs, slice_index_or}
use Rattle.offer_model.specs.declared.products.Product.{Product}
use Rattle.offer_model.specs.declared.ranges.TheConstants.{MOST_PRODUCTS, MOST_AMOUNT}
use Rattle.offer_model.specs.Problems.{no_product}
use Rattle.offer_model.specs.Validity.{IsProduct}
use Rattle.catalogue_rows.specs.Names.{is_name, number_in}

-- A product of the catalogue with its name, its attraction, its shadow attraction, how many customers arrive at it, and
-- the names of its category and its price ladder, empty where it has none.
pub record RowData : Type 0 where
  pub name : List ℕ
  pub product : Product
  pub attraction : ℕ
  pub shadow : ℕ
  pub arrival : ℕ
  pub category : List ℕ
  pub ladder : List ℕ

-- A row without a name, for places past the end.
abbrev pub no_row : RowData
no_row = record { name = []; product = no_product; attraction = 0; shadow = 0; arrival = 0; category = []; ladder = [] }

-- The row of product i.
abbrev pub row_at : List RowData → ℕ → RowData
row_at rows i = slice_index_or rows i no_row

-- The name of a category or a ladder, empty where there is none.
abbrev pub IsGroup : List ℕ → Type 0
IsGroup text = (text ≡ []) ⊎ IsTrue (is_name text)

-- The names are names, and each number is in its range.
pub record IsRow (row : RowData) : Type 0 where
  pub name : IsTrue (is_name row.name)
  pub product : IsProduct row.product
  pub attraction : row.attraction ≤ MOST_AMOUNT
  pub shadow : row.shadow ≤ MOST_AMOUNT
  pub arrival : row.arrival ≤ MOST_AMOUNT
  pub category : IsGroup row.category
  pub ladder : IsGroup row.ladder

-- Two rows have different names.
abbrev pub NamesDiffer : RowData → RowData → Type 0
NamesDiffer a b = a.name ≢ b.name

-- Categories and ladders are numbered in order of first appearance.
abbrev pub HasNumbers : List RowData → Type 0
HasNumbers rows = All (λ row.
    (row.product.category ≡ number_in (map (λ other. other.category) rows) row.category)
    × (row.product.ladder ≡ number_in (map (λ other. other.ladder) rows) row.ladder)) rows

-- The rows of a catalogue: not too many, each in range, no two of one name, categories and ladders numbered.
pub record IsCatalogue (rows : List RowData) : Type 0 where
  pub few : length rows ≤ MOST_PRODUCTS
  pub each : All IsRow rows
  pub once : AllPairs NamesDiffer rows
  pub numbered : HasNumbers rows

-- No product's shadow is above its attraction.
abbrev pub KeepsShadows : List RowData → Type 0
KeepsShadows rows = All (λ row. row.shadow ≤ row.attraction) rows
