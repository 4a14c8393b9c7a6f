-- The first fault of a table file. Own.
use Rattle.std.specs.Prelude.{ℕ, ◌+◌, ◌++◌, ◌==◌, ◌&&◌, not, Bool, List, [], ◌∷◌, length, zip, position, is_none, if◌then◌else◌, Option, Some, None, option_map, Result, Ok, Err}
use Rattle.std.specs.Option.{option_or}
use Rattle.table_reader.specs.Tables.{TableData, header_of, is_among, places_of, table_of}
use Rattle.table_reader.specs.declared.faults.TableFault.{TableFault}
use Rattle.table_reader.specs.declared.faults.TableFault.TheVariants.{UnknownColumn, RepeatedColumn, MissingColumn, FieldCount, NoMemory}

-- The first fault of a header from some field on, where those to its left are passed. Places count
-- from 0.
abbrev pub header_fault_after : List (List ℕ) → List (List ℕ) → List (List ℕ) → Option TableFault
header_fault_after names passed [] = None
header_fault_after names passed (field ∷ rest) =
    if not (is_among field names) then Some (UnknownColumn (length passed))
    else if is_among field passed then Some (RepeatedColumn (length passed))
    else header_fault_after names (passed ++ field ∷ []) rest

-- The first fault of a header from the left.
abbrev pub header_fault : List (List ℕ) → List (List ℕ) → Option TableFault
header_fault names header = header_fault_after names [] header

-- The first column that is absent and needed, from 0 in the order of the names.
abbrev pub first_missing : List (Option ℕ) → List Bool → Option ℕ
first_missing places needed = position (λ column. is_none column.0 && column.1) (zip places needed)

-- The first record with another number of fields than the header, from 0.
abbrev pub first_other_length : ℕ → List (List (List ℕ)) → Option ℕ
first_other_length width records = position (λ fields. not (length fields == width)) records

-- The first fault of a file's records: one of the header, else a missing column, else a row's number of
-- fields. Rows count the records from 1.
abbrev pub first_fault : List (List ℕ) → List Bool → List (List (List ℕ)) → Option TableFault
first_fault names needed records =
    let header = header_of records in
    option_or (header_fault names header)
    (option_or (option_map MissingColumn (first_missing (places_of names header) needed))
    (option_map (λ k. FieldCount (k + 1)) (first_other_length (length header) records)))

-- The fault, if there is one, and else the table.
abbrev pub answer_to : Option TableFault → TableData → Result TableData TableFault
answer_to None table = Ok table
answer_to (Some fault) table = Err fault

-- What a table file gives: its table, or its first fault.
abbrev pub table_outcome : List (List ℕ) → List Bool → List (List (List ℕ)) → Result TableData TableFault
table_outcome names needed records = answer_to (first_fault names needed records) (table_of names records)

-- The fact holds where the fault is of the file. Want of memory says nothing.
abbrev pub OnFault : TableFault → Type 0 → Type 0
OnFault (UnknownColumn place) fact = fact
OnFault (RepeatedColumn place) fact = fact
OnFault (MissingColumn c) fact = fact
OnFault (FieldCount row) fact = fact
OnFault NoMemory fact = Unit {0}
