-- What a table file holds, by columns. Own.
use Rattle.std.specs.Prelude.{◌≡◌, ◌<◌, ℕ, Bool, true, false, List, [], ◌∷◌, length, drop, map, position, slice_get, slice_index_or, Option, Some, None, IsSome, option_and_then, All, IfSome}
use Rattle.std.specs.Borrow.{Bor}
use Rattle.std.specs.List.{list_any}
use Rattle.std.specs.Str.{bytes_eq}

-- A table: the header place of each column, or none, and the records of the data rows.
pub record TableData : Type 0 where
  pub places : List (Option ℕ)
  pub records : List (List (List ℕ))

-- The header: the first record, or no fields where there is none.
abbrev pub header_of : List (List (List ℕ)) → List (List ℕ)
header_of records = slice_index_or records 0 []

-- Whether a text is one of these.
abbrev pub is_among : List ℕ → List (List ℕ) → Bool
is_among text texts = list_any (bytes_eq text) texts

-- The names that are lent.
abbrev pub names_in : List (Bor (List ℕ)) → List (List ℕ)
names_in names = map (λ name. name.now) names

-- No name is among those after it.
abbrev pub AreDistinct : List (List ℕ) → Type 0
AreDistinct [] = Unit {0}
AreDistinct (name ∷ names) = (is_among name names ≡ false) × AreDistinct names

-- The place of each column in a header: the first field that is its name.
abbrev pub places_of : List (List ℕ) → List (List ℕ) → List (Option ℕ)
places_of names header = map (λ name. position (bytes_eq name) header) names

-- The table with columns at these places, of the records under the header.
abbrev pub table_under : List (Option ℕ) → List (List (List ℕ)) → TableData
table_under places records = record { places = places; records = drop 1 records }

-- The table of a file's records, by the names of the columns.
abbrev pub table_of : List (List ℕ) → List (List (List ℕ)) → TableData
table_of names records = table_under (places_of names (header_of records)) records

-- The place of a column, or none where it is absent.
abbrev pub place_of : TableData → ℕ → Option ℕ
place_of table c = slice_index_or table.places c None

-- The field of a data row in a column, or none where the column is absent.
abbrev pub field_of : TableData → ℕ → ℕ → Option (List ℕ)
field_of table row c = option_and_then (slice_get (slice_index_or table.records row [])) (place_of table c)

-- Each needed column is there.
abbrev pub HasNeeded : List Bool → TableData → Type 0
HasNeeded needed table = (c : ℕ) → slice_get needed c ≡ Some true → IsSome (place_of table c)

-- The record has a field at the place of each column that is there.
abbrev pub HasEachColumn : List (Option ℕ) → List (List ℕ) → Type 0
HasEachColumn places fields = All (λ place. IfSome place (λ p. p < length fields)) places

-- Each data row has a field in each column that is there.
abbrev pub IsTable : TableData → Type 0
IsTable table = All (HasEachColumn table.places) table.records
