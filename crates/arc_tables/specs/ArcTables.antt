-- An arcs file: its columns, its rows and its first fault, over the rows of a catalogue and the scale. Own.
use Rattle.std.specs.Prelude.{ℕ, ◌+◌, ◌==◌, ◌&&◌, cond, Bool, true, List, [], ◌∷◌, length, map, replicate, sum_by, codes, Option, Some, None, unwrap_or, Result, Ok, Err, nat_lt, if◌then◌else◌}
use Rattle.std.specs.List.{list_any, range_with_len}
use Rattle.offer_model.specs.declared.arc.Arc.{Arc}
use Rattle.offer_model.specs.declared.ranges.TheConstants.{MOST_ARCS}
use Rattle.offer_model.specs.Chains.{ChainData}
use Rattle.table_reader.specs.declared.faults.TableFault.{TableFault}
use Rattle.table_reader.specs.Records.{records_of}
use Rattle.table_reader.specs.Tables.{TableData}
use Rattle.table_reader.specs.TableFaults.{table_outcome}
use Rattle.catalogue_rows.specs.declared.faults.Code.{Code}
use Rattle.catalogue_rows.specs.declared.faults.Code.TheVariants.{RepeatedName, TooManyLines, NoLeaving}
use Rattle.catalogue_rows.specs.declared.faults.FileName.TheVariants.{Arcs}
use Rattle.catalogue_rows.specs.declared.faults.InputFault.{InputFault}
use Rattle.catalogue_rows.specs.Cells.{text_of, written_number, number_fault}
use Rattle.catalogue_rows.specs.Faults.{fault_of_table, first_of, first_row_fault, unless_fault}
use Rattle.catalogue_rows.specs.Places.{product_named}
use Rattle.catalogue_rows.specs.Rows.{RowData}
use Rattle.catalogue.specs.LimitTables.{named_fault}

-- The columns by their places in the order of their names, from 0.
abbrev pub from_column : ℕ
from_column = 0

abbrev pub to_column : ℕ
to_column = 1

abbrev pub parts_column : ℕ
parts_column = 2

-- The names of the columns. All are needed.
abbrev pub arc_columns : List (List ℕ)
arc_columns = codes "from" ∷ codes "to" ∷ codes "parts" ∷ []

-- The product from which data row k leads, and the one to which.
abbrev pub from_named : List RowData → TableData → ℕ → Option ℕ
from_named rows table k = product_named rows (text_of table k from_column)

abbrev pub to_named : List RowData → TableData → ℕ → Option ℕ
to_named rows table k = product_named rows (text_of table k to_column)

-- The arc that data row k states. A row without a fault has each part.
abbrev pub stated_arc : List RowData → TableData → ℕ → Arc
stated_arc rows table k = record {
  from = unwrap_or (from_named rows table k) 0;
  to = unwrap_or (to_named rows table k) 0;
  parts = written_number (text_of table k parts_column);
}

-- The arcs that the first n data rows state.
abbrev pub arcs_before : List RowData → TableData → ℕ → List Arc
arcs_before rows table n = map (stated_arc rows table) (range_with_len 0 n)

-- Whether two arcs lead from the same product to the same.
abbrev pub same_ends : Arc → Arc → Bool
same_ends a b = (a.from == b.from) && (a.to == b.to)

-- The parts of all arcs from product i.
abbrev pub parts_from : List Arc → ℕ → ℕ
parts_from arcs i = sum_by (λ arc. cond (arc.from == i) arc.parts 0) arcs

-- There is no place for data row k.
abbrev pub arc_line_fault : ℕ → Option Code
arc_line_fault k = if nat_lt k MOST_ARCS then None else Some TooManyLines

-- An earlier row has the same ends.
abbrev pub repeated_arc : List RowData → TableData → ℕ → Option Code
repeated_arc rows table k =
    if list_any (same_ends (stated_arc rows table k)) (arcs_before rows table k) then Some RepeatedName else None

-- With data row k all customers of its product move on.
abbrev pub leaving_fault : List RowData → ℕ → TableData → ℕ → Option Code
leaving_fault rows scale table k =
    if nat_lt (parts_from (arcs_before rows table (k + 1)) (stated_arc rows table k).from) scale
    then None else Some NoLeaving

-- What is wrong with data row k.
abbrev pub arc_fault : List RowData → ℕ → TableData → ℕ → Option Code
arc_fault rows scale table k = first_of (
    arc_line_fault k
    ∷ named_fault (from_named rows table k)
    ∷ named_fault (to_named rows table k)
    ∷ number_fault 0 scale (text_of table k parts_column)
    ∷ repeated_arc rows table k
    ∷ leaving_fault rows scale table k
    ∷ [])

-- What a table gives: its arcs, in file order, or its first fault.
abbrev pub arcs_in : List RowData → ℕ → Result TableData TableFault → Result (List Arc) InputFault
arcs_in rows scale (Err fault) = Err (fault_of_table Arcs fault)
arcs_in rows scale (Ok table) = unless_fault
    (first_row_fault Arcs (arc_fault rows scale table) 0 (length table.records))
    (arcs_before rows table (length table.records))

-- What the bytes of an arcs file give over a catalogue under a scale: the arcs, or the first fault.
abbrev pub arcs_outcome : List RowData → ℕ → List ℕ → Result (List Arc) InputFault
arcs_outcome rows scale bytes = arcs_in rows scale (table_outcome arc_columns (replicate 3 true) (records_of bytes))

-- The chain of a catalogue's margins and arrivals, and of these arcs.
abbrev pub chain_data_of : List RowData → ℕ → ℕ → List Arc → ChainData
chain_data_of rows scale away arcs = record {
  scale = scale;
  away = away;
  margins = map (λ row. row.product.margin) rows;
  arrivals = map (λ row. row.arrival) rows;
  arcs = arcs;
}
