-- A limits file: its columns, its rows and its first fault, over the rows of a catalogue. Own.
use Rattle.std.specs.Prelude.{ℕ, ◌+◌, ◌==◌, ◌&&◌, not, Bool, true, false, List, [], ◌∷◌, length, map, replicate, count_by, codes, Option, Some, None, option_map, unwrap_or, is_some, Result, Ok, Err, nat_lt, if◌then◌else◌}
use Rattle.std.specs.List.{list_any, range_with_len}
use Rattle.std.specs.Str.{bytes_eq}
use Rattle.offer_model.specs.declared.products.Limit.{Limit}
use Rattle.offer_model.specs.declared.products.Limit.TheVariants as limit
use Rattle.offer_model.specs.declared.ranges.TheConstants.{MOST_COUNT, MOST_LIMITS, MOST_REQUIRES}
use Rattle.offer_model.specs.Validity.{is_requires}
use Rattle.table_reader.specs.declared.faults.TableFault.{TableFault}
use Rattle.table_reader.specs.Records.{records_of}
use Rattle.table_reader.specs.Tables.{TableData}
use Rattle.table_reader.specs.TableFaults.{table_outcome}
use Rattle.catalogue.specs.Columns.{kind_column, first_column, second_column, number_column}
use Rattle.catalogue.specs.declared.limit_kinds.LimitKind.{LimitKind}
use Rattle.catalogue.specs.declared.limit_kinds.LimitKind.TheVariants.{Total, Category, Requires, Shelf, Ladder}
use Rattle.catalogue_rows.specs.declared.faults.Code.{Code}
use Rattle.catalogue_rows.specs.declared.faults.Code.TheVariants.{UnknownName, UnknownKind, RepeatedLimit, TooManyLines}
use Rattle.catalogue_rows.specs.declared.faults.FileName.TheVariants.{Limits}
use Rattle.catalogue_rows.specs.declared.faults.InputFault.{InputFault}
use Rattle.catalogue_rows.specs.Names.{place_in}
use Rattle.catalogue_rows.specs.Cells.{text_of, written_number, number_fault}
use Rattle.catalogue_rows.specs.Faults.{fault_of_table, first_of, first_row_fault, unless_fault}
use Rattle.catalogue_rows.specs.Places.{product_named}
use Rattle.catalogue_rows.specs.Rows.{RowData}

-- The names of the columns. All are needed.
abbrev pub limit_columns : List (List ℕ)
limit_columns = codes "kind" ∷ codes "first" ∷ codes "second" ∷ codes "number" ∷ []

-- The kind that a text names.
abbrev pub kind_named : List ℕ → Option LimitKind
kind_named text =
    if bytes_eq text (codes "total") then Some Total
    else (if bytes_eq text (codes "category") then Some Category
    else (if bytes_eq text (codes "requires") then Some Requires
    else (if bytes_eq text (codes "shelf") then Some Shelf
    else (if bytes_eq text (codes "ladder") then Some Ladder
    else None))))

-- The kind of data row k, if it has one.
abbrev pub kind_of_row : TableData → ℕ → Option LimitKind
kind_of_row table k = kind_named (text_of table k kind_column)

-- The number of a category and of a ladder, by its name.
abbrev pub category_named : List RowData → List ℕ → Option ℕ
category_named rows text = option_map (λ k. k + 1) (place_in (map (λ row. row.category) rows) text)

abbrev pub ladder_named : List RowData → List ℕ → Option ℕ
ladder_named rows text = option_map (λ k. k + 1) (place_in (map (λ row. row.ladder) rows) text)

-- What the first and the second field name, where the kind uses them.
abbrev pub first_named : List RowData → LimitKind → List ℕ → Option ℕ
first_named rows Total text = Some 0
first_named rows Category text = category_named rows text
first_named rows Requires text = product_named rows text
first_named rows Shelf text = Some 0
first_named rows Ladder text = ladder_named rows text

abbrev pub second_named : List RowData → LimitKind → List ℕ → Option ℕ
second_named rows Requires text = product_named rows text
second_named rows Total text = Some 0
second_named rows Category text = Some 0
second_named rows Shelf text = Some 0
second_named rows Ladder text = Some 0

-- Whether a kind has a number.
abbrev pub uses_number : LimitKind → Bool
uses_number Total = true
uses_number Category = true
uses_number Shelf = true
uses_number Requires = false
uses_number Ladder = false

-- The limit of a kind, of what its fields name and of its number.
abbrev pub limit_by : LimitKind → ℕ → ℕ → ℕ → Limit
limit_by Total first second number = limit.Total number
limit_by Category first second number = limit.Category first number
limit_by Requires first second number = limit.Requires first second
limit_by Shelf first second number = limit.Shelf number
limit_by Ladder first second number = limit.Ladder first

-- The limit of this kind that data row k states. A row without a fault has each part.
abbrev pub limit_under : List RowData → TableData → ℕ → LimitKind → Limit
limit_under rows table k kind = limit_by kind
    (unwrap_or (first_named rows kind (text_of table k first_column)) 0)
    (unwrap_or (second_named rows kind (text_of table k second_column)) 0)
    (written_number (text_of table k number_column))

-- The limit that data row k states, of its own kind.
abbrev pub stated_limit : List RowData → TableData → ℕ → Limit
stated_limit rows table k = limit_under rows table k (unwrap_or (kind_of_row table k) Total)

-- The limits that the first n data rows state.
abbrev pub limits_before : List RowData → TableData → ℕ → List Limit
limits_before rows table n = map (stated_limit rows table) (range_with_len 0 n)

-- Whether two limits have the same kind and name the same.
abbrev pub repeats : Limit → Limit → Bool
repeats (limit.Total cap) (limit.Total other) = true
repeats (limit.Category c cap) (limit.Category d other) = c == d
repeats (limit.Requires a b) (limit.Requires c d) = (a == c) && (b == d)
repeats (limit.Shelf space) (limit.Shelf other) = true
repeats (limit.Ladder l) (limit.Ladder m) = l == m
repeats _ _ = false

-- There is no place for data row k.
abbrev pub line_fault : ℕ → Option Code
line_fault k = if nat_lt k MOST_LIMITS then None else Some TooManyLines

-- There is no place for one more limit of the kind `requires`. A row that names nothing still states a limit of its kind.
abbrev pub requires_fault : List RowData → TableData → ℕ → Option Code
requires_fault rows table k =
    if is_requires (stated_limit rows table k) && not (nat_lt (count_by is_requires (limits_before rows table k)) MOST_REQUIRES)
    then Some TooManyLines else None

-- A field names nothing.
abbrev pub named_fault : Option ℕ → Option Code
named_fault found = if is_some found then None else Some UnknownName

-- What is wrong with a number that the kind uses.
abbrev pub cap_fault : LimitKind → List ℕ → Option Code
cap_fault kind text = if uses_number kind then number_fault 0 MOST_COUNT text else None

-- An earlier row has the same kind and names the same.
abbrev pub repeated_fault : List RowData → TableData → ℕ → Option Code
repeated_fault rows table k =
    if list_any (repeats (stated_limit rows table k)) (limits_before rows table k) then Some RepeatedLimit else None

-- What is wrong with the fields of data row k that a kind uses.
abbrev pub fields_fault : List RowData → TableData → ℕ → LimitKind → Option Code
fields_fault rows table k kind = first_of (
    named_fault (first_named rows kind (text_of table k first_column))
    ∷ named_fault (second_named rows kind (text_of table k second_column))
    ∷ cap_fault kind (text_of table k number_column)
    ∷ [])

-- What is wrong with data row k of a kind.
abbrev pub fault_of_kind : List RowData → TableData → ℕ → Option LimitKind → Option Code
fault_of_kind rows table k None = Some UnknownKind
fault_of_kind rows table k (Some kind) =
    first_of (requires_fault rows table k ∷ fields_fault rows table k kind ∷ repeated_fault rows table k ∷ [])

-- What is wrong with data row k: its number, then its kind, then the rest.
abbrev pub limit_fault : List RowData → TableData → ℕ → Option Code
limit_fault rows table k = first_of (line_fault k ∷ fault_of_kind rows table k (kind_of_row table k) ∷ [])

-- What a table gives: its limits, in file order, or its first fault.
abbrev pub limits_in : List RowData → Result TableData TableFault → Result (List Limit) InputFault
limits_in rows (Err fault) = Err (fault_of_table Limits fault)
limits_in rows (Ok table) = unless_fault
    (first_row_fault Limits (limit_fault rows table) 0 (length table.records))
    (limits_before rows table (length table.records))

-- What the bytes of a limits file give over a catalogue: the limits, or the first fault.
abbrev pub limits_outcome : List RowData → List ℕ → Result (List Limit) InputFault
limits_outcome rows bytes = limits_in rows (table_outcome limit_columns (replicate 4 true) (records_of bytes))
