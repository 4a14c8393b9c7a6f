-- A segments file: its columns, its rows and its first fault, over the rows of a catalogue and the unit. Own.
use Rattle.std.specs.Prelude.{ℕ, ◌+◌, ◌*◌, ◌==◌, ◌&&◌, Bool, true, List, [], ◌∷◌, length, map, position, replicate, slice_index_or, sum_by, codes, Option, Some, None, option_map, unwrap_or, is_some, Result, Ok, Err, nat_lt, nat_le, if◌then◌else◌}
use Rattle.std.specs.List.{filter, range_with_len}
use Rattle.std.specs.Str.{bytes_eq}
use Rattle.offer_model.specs.declared.ranges.TheConstants.{MOST_AMOUNT, MOST_SEGMENTS}
use Rattle.offer_model.specs.Problems.{SegmentData}
use Rattle.table_reader.specs.declared.faults.TableFault.{TableFault}
use Rattle.table_reader.specs.Records.{records_of}
use Rattle.table_reader.specs.Tables.{TableData, is_among}
use Rattle.table_reader.specs.TableFaults.{table_outcome}
use Rattle.catalogue.specs.Columns.{segment_column, product_column, size_column, weight_column}
use Rattle.catalogue_rows.specs.declared.faults.Code.{Code}
use Rattle.catalogue_rows.specs.declared.faults.Code.TheVariants.{RepeatedName, TooManyLines, SizesTooGreat}
use Rattle.catalogue_rows.specs.declared.faults.FileName.TheVariants.{Segments}
use Rattle.catalogue_rows.specs.declared.faults.InputFault.{InputFault}
use Rattle.catalogue_rows.specs.Cells.{text_of, written_number, number_fault, name_fault}
use Rattle.catalogue_rows.specs.Faults.{fault_of_table, first_of, first_row_fault, unless_fault}
use Rattle.catalogue_rows.specs.Places.{product_named}
use Rattle.catalogue.specs.LimitTables.{named_fault}
use Rattle.catalogue_rows.specs.Rows.{RowData}

-- A segment and its name.
pub record NamedSegment : Type 0 where
  pub name : List ℕ
  pub segment : SegmentData

-- The segment at a place, and one of nobody past the end.
abbrev pub named_segment_at : List NamedSegment → ℕ → NamedSegment
named_segment_at segments g =
    slice_index_or segments g (record { name = []; segment = record { size = 0; none = 0; attract = []; shadow = [] } })

-- The names of the columns. All are needed.
abbrev pub segment_columns : List (List ℕ)
segment_columns = codes "segment" ∷ codes "product" ∷ codes "size" ∷ codes "attraction" ∷ []

-- The segment and the product that data row k names.
abbrev pub segment_text : TableData → ℕ → List ℕ
segment_text table k = text_of table k segment_column

abbrev pub product_text : TableData → ℕ → List ℕ
product_text table k = text_of table k product_column

-- The size that data row k writes, and its weight: the attraction of a product, or in a head that of buying nothing.
abbrev pub row_size : TableData → ℕ → ℕ
row_size table k = written_number (text_of table k size_column)

abbrev pub row_weight : TableData → ℕ → ℕ
row_weight table k = written_number (text_of table k weight_column)

-- Whether data row k is a head, which begins a segment: it names no product.
abbrev pub is_head : TableData → ℕ → Bool
is_head table k = length (product_text table k) == 0

-- The heads among the first n data rows.
abbrev pub heads_before : TableData → ℕ → List ℕ
heads_before table n = filter (is_head table) (range_with_len 0 n)

-- The names of the segments that they begin.
abbrev pub names_before : TableData → ℕ → List (List ℕ)
names_before table n = map (segment_text table) (heads_before table n)

-- The sum of their sizes times the unit.
abbrev pub sizes_before : ℕ → TableData → ℕ → ℕ
sizes_before unit table n = sum_by (λ k. row_size table k * unit) (heads_before table n)

-- Whether data row k names this segment and this product.
abbrev pub names_pair : TableData → List ℕ → List ℕ → ℕ → Bool
names_pair table segment product k = bytes_eq (segment_text table k) segment && bytes_eq (product_text table k) product

-- The attraction of a product in a segment that the first of the first n data rows for them writes, if there is one.
abbrev pub attraction_before : TableData → ℕ → List ℕ → List ℕ → Option ℕ
attraction_before table n segment product =
    option_map (row_weight table) (position (names_pair table segment product) (range_with_len 0 n))

-- A head before data row k has its segment's name.
abbrev pub repeated_head : TableData → ℕ → Option Code
repeated_head table k = if is_among (segment_text table k) (names_before table k) then Some RepeatedName else None

-- There is no place for one more head.
abbrev pub head_line_fault : TableData → ℕ → Option Code
head_line_fault table k = if nat_lt (length (heads_before table k)) MOST_SEGMENTS then None else Some TooManyLines

-- The sum of size times unit over the heads up to data row k is too great.
abbrev pub sizes_fault : ℕ → TableData → ℕ → Option Code
sizes_fault unit table k = if nat_le (sizes_before unit table (k + 1)) MOST_AMOUNT then None else Some SizesTooGreat

-- What is wrong with data row k as a head.
abbrev pub head_fault : ℕ → TableData → ℕ → Option Code
head_fault unit table k = first_of (
    name_fault (segment_text table k)
    ∷ repeated_head table k
    ∷ head_line_fault table k
    ∷ number_fault 1 MOST_AMOUNT (text_of table k size_column)
    ∷ number_fault 1 MOST_AMOUNT (text_of table k weight_column)
    ∷ sizes_fault unit table k
    ∷ [])

-- The place of the segment that data row k names among those of the heads before it.
abbrev pub segment_named : TableData → ℕ → Option ℕ
segment_named table k = position (bytes_eq (segment_text table k)) (names_before table k)

-- A row before data row k names the same segment and the same product.
abbrev pub repeated_pair : TableData → ℕ → Option Code
repeated_pair table k =
    if is_some (attraction_before table k (segment_text table k) (product_text table k)) then Some RepeatedName else None

-- What is wrong with data row k as a product's attraction in a segment.
abbrev pub pair_fault : List RowData → TableData → ℕ → Option Code
pair_fault rows table k = first_of (
    named_fault (segment_named table k)
    ∷ named_fault (product_named rows (product_text table k))
    ∷ repeated_pair table k
    ∷ number_fault 0 MOST_AMOUNT (text_of table k weight_column)
    ∷ [])

-- What is wrong with data row k.
abbrev pub segment_fault : List RowData → ℕ → TableData → ℕ → Option Code
segment_fault rows unit table k = if is_head table k then head_fault unit table k else pair_fault rows table k

-- The attractions of the catalogue's products in a segment, where the first n data rows write them.
abbrev pub attractions_before : List RowData → TableData → ℕ → List ℕ → List (Option ℕ)
attractions_before rows table n segment = map (λ row. attraction_before table n segment row.name) rows

-- The segment that data row k begins. A product without a row in it has attraction 0.
abbrev pub segment_begun : List RowData → TableData → ℕ → NamedSegment
segment_begun rows table k = record {
  name = segment_text table k;
  segment = record {
    size = row_size table k;
    none = row_weight table k;
    attract = map (λ found. unwrap_or found 0) (attractions_before rows table (length table.records) (segment_text table k));
    shadow = replicate (length rows) 0;
  };
}

-- The segments of all heads, in their order.
abbrev pub segments_of : List RowData → TableData → List NamedSegment
segments_of rows table = map (segment_begun rows table) (heads_before table (length table.records))

-- What a table gives: its segments, or its first fault.
abbrev pub segments_in : List RowData → ℕ → Result TableData TableFault → Result (List NamedSegment) InputFault
segments_in rows unit (Err fault) = Err (fault_of_table Segments fault)
segments_in rows unit (Ok table) = unless_fault
    (first_row_fault Segments (segment_fault rows unit table) 0 (length table.records))
    (segments_of rows table)

-- What the bytes of a segments file give over a catalogue under a unit: the segments, or the first fault.
abbrev pub segments_outcome : List RowData → ℕ → List ℕ → Result (List NamedSegment) InputFault
segments_outcome rows unit bytes = segments_in rows unit (table_outcome segment_columns (replicate 4 true) (records_of bytes))
