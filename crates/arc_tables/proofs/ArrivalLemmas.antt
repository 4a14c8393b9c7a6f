-- At a catalogue that was read for a chain, some customers arrive.
use Rattle.std.proofs.Common.{◌≡◌, subst, refl, arith, ℕ, ◌<◌, ◌==◌, length, Bool, true, false, List, sum_by, Option, Some, None, option_map, Result, Ok, Err}
use Rattle.std.specs.Option.{option_or}
use Rattle.offer_model.specs.declared.products.ModelName.TheVariants.{Chain}
use Rattle.std.proofs.lemmas.Bool.Decides.{nat_tests}
use Rattle.table_reader.specs.Records.{records_of}
use Rattle.table_reader.specs.Tables.{TableData}
use Rattle.table_reader.specs.TableFaults.{table_outcome}
use Rattle.table_reader.specs.declared.faults.TableFault.{TableFault}
use Rattle.catalogue_rows.specs.declared.faults.Code.{Code}
use Rattle.catalogue_rows.specs.declared.faults.FileName.TheVariants.{Products}
use Rattle.catalogue_rows.specs.declared.faults.InputFault.{InputFault}
use Rattle.catalogue_rows.specs.declared.faults.InputFault.TheVariants.{Fault}
use Rattle.catalogue_rows.specs.Faults.{first_row_fault, unless_fault}
use Rattle.catalogue_rows.specs.Rows.{RowData}
use Rattle.catalogue_rows.specs.ProductTables.{product_columns, needed_columns, product_fault, product_rows, arrival_fault, products_in, products_outcome}

-- Where nobody arrives there is a fault.
arrivals_judged : (rows : List RowData) → arrival_fault Chain rows ≡ None → 0 < sum_by (λ row. row.arrival) rows
arrivals_judged rows none = by_test (sum_by (λ row. row.arrival) rows == 0) refl
  where
    by_test : (b : Bool) → (sum_by (λ row. row.arrival) rows == 0) ≡ b → 0 < sum_by (λ row. row.arrival) rows
    by_test true is = let h = rw is at none in cc
    by_test false is = grind (arith, nat_tests)

unjudged : (found : Option Code) → option_map (Fault Products 1) found ≡ None → found ≡ None
unjudged None none = refl
unjudged (Some code) none = cc

-- An answer that stands had no first fault and no other.
judged : (first later : Option InputFault) (rows answer : List RowData) → unless_fault (option_or first later) answer ≡ Ok rows
    → (later ≡ None) × (answer ≡ rows)
judged None None rows answer stands = (refl, cc)
judged None (Some fault) rows answer stands = cc
judged (Some fault) later rows answer stands = cc

-- A table that gives rows gives some arrivals.
arrive_in : (rows : List RowData) (read : Result TableData TableFault) → products_in Chain read ≡ Ok rows → 0 < sum_by (λ row. row.arrival) rows
arrive_in rows (Err fault) stands = cc
arrive_in rows (Ok table) stands =
    let parts = judged (first_row_fault Products (product_fault Chain table) 0 (length table.records))
    (option_map (Fault Products 1) (arrival_fault Chain (product_rows table))) rows (product_rows table) stands in
    subst (λ found. 0 < sum_by (λ row. row.arrival) found) parts.1 (arrivals_judged (product_rows table) (unjudged _ parts.0))

-- The bytes of a products file that give a catalogue under a chain give some arrivals.
pub some_arrive : (bytes : List ℕ) (rows : List RowData) → products_outcome Chain bytes ≡ Ok rows → 0 < sum_by (λ row. row.arrival) rows
some_arrive bytes rows stands = arrive_in rows (table_outcome product_columns (needed_columns Chain) (records_of bytes)) stands
