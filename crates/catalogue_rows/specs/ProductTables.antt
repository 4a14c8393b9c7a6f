-- A products file: its columns, its rows and its first fault. Own.
use Rattle.std.specs.Prelude.{ℕ, ◌==◌, Bool, true, false, List, [], ◌∷◌, length, map, take, slice_index_or, sum_by, codes, Option, Some, None, option_map, Result, Ok, Err, nat_lt, if◌then◌else◌}
use Rattle.std.specs.List.{range_with_len}
use Rattle.std.specs.Option.{option_or}
use Rattle.offer_model.specs.declared.products.ModelName.{ModelName}
use Rattle.offer_model.specs.declared.products.ModelName.TheVariants.{Logit, Attract, Mixed, Chain}
use Rattle.offer_model.specs.declared.ranges.TheConstants.{MOST_PRODUCTS, MOST_AMOUNT, MOST_COUNT}
use Rattle.table_reader.specs.declared.faults.TableFault.{TableFault}
use Rattle.table_reader.specs.Records.{records_of}
use Rattle.table_reader.specs.Tables.{TableData, is_among}
use Rattle.table_reader.specs.TableFaults.{table_outcome}
use Rattle.catalogue_rows.specs.Columns.{name_column, margin_column, attraction_column, shadow_column, category_column, space_column, price_column, ladder_column, grade_column, arrival_column}
use Rattle.catalogue_rows.specs.declared.faults.Code.{Code}
use Rattle.catalogue_rows.specs.declared.faults.Code.TheVariants.{RepeatedName, ShadowAbove, TooManyProducts, NoArrivals}
use Rattle.catalogue_rows.specs.declared.faults.FileName.TheVariants.{Products}
use Rattle.catalogue_rows.specs.declared.faults.InputFault.{InputFault}
use Rattle.catalogue_rows.specs.declared.faults.InputFault.TheVariants.{Fault}
use Rattle.catalogue_rows.specs.Names.{number_in}
use Rattle.catalogue_rows.specs.Cells.{texts_of, text_of, written_number, number_fault, name_fault, fault_unless_empty}
use Rattle.catalogue_rows.specs.Faults.{fault_of_table, first_of, first_row_fault, unless_fault}
use Rattle.catalogue_rows.specs.Rows.{RowData}

-- The names of the columns.
abbrev pub product_columns : List (List ℕ)
product_columns =
    codes "name" ∷ codes "margin" ∷ codes "attraction" ∷ codes "shadow" ∷ codes "category"
    ∷ codes "space" ∷ codes "price" ∷ codes "ladder" ∷ codes "grade" ∷ codes "arrival" ∷ []

-- Which of them a model needs: the name and the margin, attractions where revenue is one ratio, arrivals under a chain.
abbrev pub needed_columns : ModelName → List Bool
needed_columns Logit = true ∷ true ∷ true ∷ false ∷ false ∷ false ∷ false ∷ false ∷ false ∷ false ∷ []
needed_columns Attract = true ∷ true ∷ true ∷ false ∷ false ∷ false ∷ false ∷ false ∷ false ∷ false ∷ []
needed_columns Mixed = true ∷ true ∷ false ∷ false ∷ false ∷ false ∷ false ∷ false ∷ false ∷ false ∷ []
needed_columns Chain = true ∷ true ∷ false ∷ false ∷ false ∷ false ∷ false ∷ false ∷ false ∷ true ∷ []

-- Whether a model needs column c.
abbrev pub is_needed : ModelName → ℕ → Bool
is_needed model c = slice_index_or (needed_columns model) c false

-- There is no place for data row k.
abbrev pub count_fault : ℕ → Option Code
count_fault k = if nat_lt k MOST_PRODUCTS then None else Some TooManyProducts

-- An earlier row has the name of data row k.
abbrev pub repeat_fault : TableData → ℕ → Option Code
repeat_fault table k =
    if is_among (text_of table k name_column) (take k (texts_of table name_column)) then Some RepeatedName else None

-- What is wrong with a number of data row k, from 0 to `most`.
abbrev pub amount_fault : ModelName → TableData → ℕ → ℕ → ℕ → Option Code
amount_fault model table k c most =
    fault_unless_empty (is_needed model c) (number_fault 0 most) (text_of table k c)

-- What is wrong with the category or the ladder of data row k.
abbrev pub group_fault : TableData → ℕ → ℕ → Option Code
group_fault table k c = fault_unless_empty false name_fault (text_of table k c)

-- Under generalised attraction the shadow of data row k is above its attraction.
abbrev pub shadow_fault : ModelName → TableData → ℕ → Option Code
shadow_fault Attract table k =
    if nat_lt (written_number (text_of table k attraction_column)) (written_number (text_of table k shadow_column)) then Some ShadowAbove
    else None
shadow_fault Logit table k = None
shadow_fault Mixed table k = None
shadow_fault Chain table k = None

-- What is wrong with data row k: first its number, then its columns in their order, then its shadow.
abbrev pub product_fault : ModelName → TableData → ℕ → Option Code
product_fault model table k = first_of (
    count_fault k
    ∷ name_fault (text_of table k name_column)
    ∷ repeat_fault table k
    ∷ amount_fault model table k margin_column MOST_AMOUNT
    ∷ amount_fault model table k attraction_column MOST_AMOUNT
    ∷ amount_fault model table k shadow_column MOST_AMOUNT
    ∷ group_fault table k category_column
    ∷ amount_fault model table k space_column MOST_COUNT
    ∷ amount_fault model table k price_column MOST_AMOUNT
    ∷ group_fault table k ladder_column
    ∷ amount_fault model table k grade_column MOST_COUNT
    ∷ amount_fault model table k arrival_column MOST_AMOUNT
    ∷ shadow_fault model table k
    ∷ [])

-- The row of data row k. An empty text of a number is 0. Categories and ladders are numbered in order of first appearance.
abbrev pub product_row : TableData → ℕ → RowData
product_row table k = record {
  name = text_of table k name_column;
  product = record {
    margin = written_number (text_of table k margin_column);
    category = number_in (texts_of table category_column) (text_of table k category_column);
    space = written_number (text_of table k space_column);
    price = written_number (text_of table k price_column);
    ladder = number_in (texts_of table ladder_column) (text_of table k ladder_column);
    grade = written_number (text_of table k grade_column);
  };
  attraction = written_number (text_of table k attraction_column);
  shadow = written_number (text_of table k shadow_column);
  arrival = written_number (text_of table k arrival_column);
  category = text_of table k category_column;
  ladder = text_of table k ladder_column;
}

-- The rows of all data rows.
abbrev pub product_rows : TableData → List RowData
product_rows table = map (product_row table) (range_with_len 0 (length table.records))

-- Under a chain nobody arrives.
abbrev pub arrival_fault : ModelName → List RowData → Option Code
arrival_fault Chain rows = if sum_by (λ row. row.arrival) rows == 0 then Some NoArrivals else None
arrival_fault Logit rows = None
arrival_fault Attract rows = None
arrival_fault Mixed rows = None

-- The first fault of a table: one of its rows, else that nobody arrives.
abbrev pub products_fault : ModelName → TableData → Option InputFault
products_fault model table = option_or
    (first_row_fault Products (product_fault model table) 0 (length table.records))
    (option_map (Fault Products 1) (arrival_fault model (product_rows table)))

-- What a table gives: its rows, or its first fault.
abbrev pub products_in : ModelName → Result TableData TableFault → Result (List RowData) InputFault
products_in model (Err fault) = Err (fault_of_table Products fault)
products_in model (Ok table) = unless_fault (products_fault model table) (product_rows table)

-- What the bytes of a products file give: the rows of a catalogue, or the first fault.
abbrev pub products_outcome : ModelName → List ℕ → Result (List RowData) InputFault
products_outcome model bytes =
    products_in model (table_outcome product_columns (needed_columns model) (records_of bytes))
