-- What a products file gives, from what its table and its rows gave.
use Rattle.std.proofs.Common.{◌≡◌, ◌∙◌, sym, ap, refl, ℕ, Bool, List, length, Some, None, Ok, Err}
use Rattle.offer_model.specs.declared.products.ModelName.{ModelName}
use Rattle.offer_model.specs.declared.products.ModelName.TheVariants.{Attract}
use Rattle.table_reader.specs.Records.{records_of}
use Rattle.table_reader.specs.Tables.{TableData}
use Rattle.table_reader.specs.TableFaults.{table_outcome}
use Rattle.table_reader.specs.TableFaults as faults
use Rattle.table_reader.specs.declared.faults.TableFault.{TableFault}
use Rattle.table_reader.specs.declared.faults.TableFault.TheVariants as found
use Rattle.catalogue_rows.specs.declared.faults.Code.{Code}
use Rattle.catalogue_rows.specs.declared.faults.FileName.TheVariants.{Products}
use Rattle.catalogue_rows.specs.declared.faults.InputFault.{InputFault}
use Rattle.catalogue_rows.specs.declared.faults.InputFault.TheVariants.{Fault, NoMemory}
use Rattle.catalogue_rows.specs.Rows.{KeepsShadows, RowData, IsCatalogue}
use Rattle.catalogue_rows.specs.Faults.{OnFault, fault_of_table, first_row_fault}
use Rattle.catalogue_rows.specs.ProductTables.{product_columns, needed_columns, product_fault, product_rows, arrival_fault, products_in, products_outcome}
use Rattle.catalogue_rows.proofs.FaultLemmas.{row_is_clean}
use Rattle.catalogue_rows.proofs.ProductLemmas.{is_catalogue, keeps_shadows}

-- The table under the columns that a model needs.
pub table_made : (model : ModelName) (bytes : List ℕ) (table : TableData) (needed : List Bool) → needed ≡ needed_columns model
    → table_outcome product_columns needed (records_of bytes) ≡ Ok table
    → table_outcome product_columns (needed_columns model) (records_of bytes) ≡ Ok table
table_made model bytes table needed which made = ap (λ ds. table_outcome product_columns ds (records_of bytes)) (sym which) ∙ made

-- A fault of the table is the file's.
pub table_fault_stands : (model : ModelName) (bytes : List ℕ) (fault : TableFault) (needed : List Bool) → needed ≡ needed_columns model
    → faults.OnFault fault (table_outcome product_columns needed (records_of bytes) ≡ Err fault)
    → OnFault (fault_of_table Products fault) (products_outcome model bytes ≡ Err (fault_of_table Products fault))
table_fault_stands model bytes fault needed which = by_fault fault
  where
    stands : (fault : TableFault) → table_outcome product_columns needed (records_of bytes) ≡ Err fault
        → products_outcome model bytes ≡ Err (fault_of_table Products fault)
    stands fault made =
        ap (λ ds. products_in model (table_outcome product_columns ds (records_of bytes))) (sym which) ∙ ap (products_in model) made

    by_fault : (fault : TableFault) → faults.OnFault fault (table_outcome product_columns needed (records_of bytes) ≡ Err fault)
        → OnFault (fault_of_table Products fault) (products_outcome model bytes ≡ Err (fault_of_table Products fault))
    by_fault (found.UnknownColumn place) made = stands (found.UnknownColumn place) made
    by_fault (found.RepeatedColumn place) made = stands (found.RepeatedColumn place) made
    by_fault (found.MissingColumn c) made = stands (found.MissingColumn c) made
    by_fault (found.FieldCount row) made = stands (found.FieldCount row) made
    by_fault found.NoMemory made = tt

module _ (model : ModelName) (bytes : List ℕ) (table : TableData)
    (made : table_outcome product_columns (needed_columns model) (records_of bytes) ≡ Ok table) where
  -- The first fault of a row is the file's.
  pub row_fault_stands : (e : InputFault)
      → OnFault e (first_row_fault Products (product_fault model table) 0 (length table.records) ≡ Some e)
      → OnFault e (products_outcome model bytes ≡ Err e)
  row_fault_stands (Fault file row code) first = rw (made, first) refl
  row_fault_stands NoMemory first = tt

  module _ (clean : first_row_fault Products (product_fault model table) 0 (length table.records) ≡ None) (rows : List RowData) (read : rows ≡ product_rows table) where
    -- Else that nobody arrives.
    pub arrival_fault_stands : (code : Code) → arrival_fault model rows ≡ Some code → products_outcome model bytes ≡ Err (Fault Products 1 code)
    arrival_fault_stands code found =
        let nobody : arrival_fault model (product_rows table) ≡ Some code = rw (← read) found in
        rw (made, clean, nobody) refl

    -- Else the file gives the rows.
    pub rows_stand : arrival_fault model rows ≡ None → products_outcome model bytes ≡ Ok rows
    rows_stand none =
        let somebody : arrival_fault model (product_rows table) ≡ None = rw (← read) none in
        rw (read, made, clean, somebody) refl

    -- They are a catalogue, and keep their shadows.
    pub rows_are_catalogue : IsCatalogue rows
    rows_are_catalogue =
        rw read (is_catalogue table model (λ k inside. row_is_clean Products (product_fault model table) (length table.records) k clean inside))

    pub rows_keep_shadows : model ≡ Attract → KeepsShadows rows
    rows_keep_shadows e =
        rw read (keeps_shadows table model (λ k inside. row_is_clean Products (product_fault model table) (length table.records) k clean inside) e)
