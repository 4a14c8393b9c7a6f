-- The faults of a file, and the first of its rows. Own.
use Rattle.std.specs.Prelude.{ℕ, ◌+◌, List, [], ◌∷◌, Option, Some, None, option_map, Result, Ok, Err}
use Prim.Native.Nat.{zero, suc}
use Rattle.std.specs.Option.{option_or}
use Rattle.table_reader.specs.declared.faults.TableFault.{TableFault}
use Rattle.table_reader.specs.declared.faults.TableFault.TheVariants as table
use Rattle.catalogue_rows.specs.declared.faults.Code.{Code}
use Rattle.catalogue_rows.specs.declared.faults.Code.TheVariants.{UnknownColumn, RepeatedColumn, MissingColumn, FieldCount}
use Rattle.catalogue_rows.specs.declared.faults.FileName.{FileName}
use Rattle.catalogue_rows.specs.declared.faults.InputFault.{InputFault}
use Rattle.catalogue_rows.specs.declared.faults.InputFault.TheVariants.{Fault, NoMemory}

-- The fact holds where the answer is a fault of the file. Want of memory says nothing.
abbrev pub OnFault : InputFault → Type 0 → Type 0
OnFault (Fault file row code) fact = fact
OnFault NoMemory fact = Unit {0}

-- The fault of a file that is no table of its columns. Faults of the header have row 1.
abbrev pub fault_of_table : FileName → TableFault → InputFault
fault_of_table file (table.UnknownColumn place) = Fault file 1 UnknownColumn
fault_of_table file (table.RepeatedColumn place) = Fault file 1 RepeatedColumn
fault_of_table file (table.MissingColumn c) = Fault file 1 (MissingColumn c)
fault_of_table file (table.FieldCount row) = Fault file row FieldCount
fault_of_table file table.NoMemory = NoMemory

-- The first that there is.
abbrev pub first_of : {A : Type 0} → List (Option A) → Option A
first_of [] = None
first_of (found ∷ rest) = option_or found (first_of rest)

-- The first fault among n data rows from data row k on, where `fault_in` says what is wrong with a row. Data row k, from 0,
-- is row k + 2 of the file.
abbrev pub first_row_fault : FileName → (ℕ → Option Code) → ℕ → ℕ → Option InputFault
first_row_fault file fault_in k zero = None
first_row_fault file fault_in k (suc n) =
    option_or (option_map (Fault file (k + 2)) (fault_in k)) (first_row_fault file fault_in (k + 1) n)

-- The fault, if there is one, and else the answer.
abbrev pub unless_fault : {A : Type 0} → Option InputFault → A → Result A InputFault
unless_fault None answer = Ok answer
unless_fault (Some fault) answer = Err fault
