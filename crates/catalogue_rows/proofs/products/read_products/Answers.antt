use Rattle.std.proofs.Common.{rules}
use Rattle.std.proofs.lemmas.Result.{err_from_is_err_and}
use Rattle.catalogue_rows.proofs.OutcomeLemmas.{table_made, table_fault_stands, row_fault_stands, arrival_fault_stands, rows_stand, rows_are_catalogue, rows_keep_shadows}
use Rattle.catalogue_rows.proofs.products.read_products.Goals as goal

pub returns-in_err-rows-clause-fault : goal.returns-in_err-rows-clause-fault
returns-in_err-rows-clause-fault c =
    let made = table_made c.args.model c.args.bytes.now c.in-Ok.table c.needed_columns.result c.needed_columns.ensures c.in-Ok.ensures.table in
    let p = err_from_is_err_and c.from_residual.result c.from_residual.ensures.1 in
    rw (p.1, p.2) (row_fault_stands c.args.model c.args.bytes.now c.in-Ok.table made c.in_err-rows.field-0.0 c.in_err-rows.ensures.fault)

pub returns-in-Some-clause-fault : goal.returns-in-Some-clause-fault
returns-in-Some-clause-fault c =
    let made = table_made c.args.model c.args.bytes.now c.in-Ok.table c.needed_columns.result c.needed_columns.ensures c.in-Ok.ensures.table in
    arrival_fault_stands c.args.model c.args.bytes.now c.in-Ok.table made c.in_ok-rows.ensures.sound c.in_ok-rows.rows.items c.in_ok-rows.ensures.rows
    c.in-Some.code (search rules)

pub new-requires : goal.new-requires
new-requires c =
    let made = table_made c.args.model c.args.bytes.now c.in-Ok.table c.needed_columns.result c.needed_columns.ensures c.in-Ok.ensures.table in
    rows_are_catalogue c.args.model c.args.bytes.now c.in-Ok.table made c.in_ok-rows.ensures.sound c.in_ok-rows.rows.items c.in_ok-rows.ensures.rows

pub returns-clause-rows : goal.returns-clause-rows
returns-clause-rows c =
    let made = table_made c.args.model c.args.bytes.now c.in-Ok.table c.needed_columns.result c.needed_columns.ensures c.in-Ok.ensures.table in
    rw c.new.ensures
    (rows_stand c.args.model c.args.bytes.now c.in-Ok.table made c.in_ok-rows.ensures.sound c.in_ok-rows.rows.items c.in_ok-rows.ensures.rows (search rules))

pub returns-clause-shadows : goal.returns-clause-shadows
returns-clause-shadows c =
    let made = table_made c.args.model c.args.bytes.now c.in-Ok.table c.needed_columns.result c.needed_columns.ensures c.in-Ok.ensures.table in
    rw c.new.ensures
    (rows_keep_shadows c.args.model c.args.bytes.now c.in-Ok.table made c.in_ok-rows.ensures.sound c.in_ok-rows.rows.items c.in_ok-rows.ensures.rows)

pub returns-in-Err-clause-fault : goal.returns-in-Err-clause-fault
returns-in-Err-clause-fault c =
    rw c.fault_of_table.ensures
    (table_fault_stands c.args.model c.args.bytes.now c.in-Err.fault c.needed_columns.result c.needed_columns.ensures c.in-Err.ensures.fault)
