-- The texts of a table's cells, and what is wrong with one. Own.
use Rattle.std.specs.Prelude.{ℕ, ◌&&◌, ◌==◌, not, Bool, List, [], length, map, slice_get, slice_index_or, Option, Some, None, option_and_then, unwrap_or, nat_le, if◌then◌else◌}
use Rattle.offer_model.specs.Numerals.{number_of}
use Rattle.table_reader.specs.Tables.{TableData, place_of}
use Rattle.catalogue_rows.specs.declared.faults.Code.{Code}
use Rattle.catalogue_rows.specs.declared.faults.Code.TheVariants.{BadName, BadNumber, OutOfRange}
use Rattle.catalogue_rows.specs.Names.{is_name}

-- The text that a record has at the place of a column, and the empty text where the column is absent.
abbrev pub text_at : Option ℕ → List (List ℕ) → List ℕ
text_at place fields = unwrap_or (option_and_then (slice_get fields) place) []

-- The texts of a column, one for each data row.
abbrev pub texts_of : TableData → ℕ → List (List ℕ)
texts_of table c = map (text_at (place_of table c)) table.records

-- The text of data row k in a column.
abbrev pub text_of : TableData → ℕ → ℕ → List ℕ
text_of table k c = slice_index_or (texts_of table c) k []

-- The number that a text writes, and 0 where it writes none.
abbrev pub written_number : List ℕ → ℕ
written_number text = unwrap_or (number_of text) 0

-- What is wrong with a number's range, or with a text that writes none.
abbrev pub range_fault : ℕ → ℕ → Option ℕ → Option Code
range_fault least most None = Some BadNumber
range_fault least most (Some n) = if nat_le least n && nat_le n most then None else Some OutOfRange

-- What is wrong with a text as a number from `least` to `most`.
abbrev pub number_fault : ℕ → ℕ → List ℕ → Option Code
number_fault least most text = range_fault least most (number_of text)

-- What is wrong with a text as a name.
abbrev pub name_fault : List ℕ → Option Code
name_fault text = if is_name text then None else Some BadName

-- What is wrong with a text, where an empty one is a fault only if it is needed.
abbrev pub fault_unless_empty : Bool → (List ℕ → Option Code) → List ℕ → Option Code
fault_unless_empty needed fault text = if not needed && (length text == 0) then None else fault text
