use Rattle.std.proofs.Common.{◌≡◌, None, refl, arith}
use Rattle.std.proofs.lemmas.Bool.Decides.{nat_tests}
use Rattle.std.proofs.lemmas.Result.{err_from_is_err_and}
use Rattle.catalogue_rows.specs.ProductTables.{count_fault, repeat_fault}
use Rattle.catalogue_rows.specs.Cells.{text_of, name_fault}
use Rattle.catalogue_rows.specs.Columns.{name_column}
use Rattle.catalogue_rows.proofs.FaultLemmas.{first_of_two}
use Rattle.catalogue_rows.proofs.product_cells.read_cells.Goals as goal

pub returns-in_err-new_name-clause-fault : goal.returns-in_err-new_name-clause-fault
returns-in_err-new_name-clause-fault c =
    let p = err_from_is_err_and c.from_residual.result c.from_residual.ensures.1 in
    let count : count_fault c.args.k ≡ None = grind (arith, nat_tests) in
    rw (p.1, p.2)
    (rw count (first_of_two (name_fault (text_of c.args.table.now c.args.k name_column)) (repeat_fault c.args.table.now c.args.k) _ _ c.in_err-new_name.ensures.fault))

pub returns-in_err-amount_at-5-clause-fault : goal.returns-in_err-amount_at-5-clause-fault
returns-in_err-amount_at-5-clause-fault c =
    let p = err_from_is_err_and c.from_residual-in_err-amount_at-5.result c.from_residual-in_err-amount_at-5.ensures.1 in
    let count : count_fault c.args.k ≡ None = grind (arith, nat_tests) in
    rw (p.1, p.2)
    (rw (count, c.in_ok-new_name.ensures.bad, c.in_ok-new_name.ensures.repeated, c.in_ok-amount_at.ensures.sound, c.in_ok-amount_at-2.ensures.sound, c.in_ok-amount_at-3.ensures.sound, c.in_ok-group_at.ensures.sound, c.in_ok-amount_at-4.ensures.sound, c.in_err-amount_at-5.ensures.fault) refl)

pub returns-in_err-amount_at-6-clause-fault : goal.returns-in_err-amount_at-6-clause-fault
returns-in_err-amount_at-6-clause-fault c =
    let p = err_from_is_err_and c.from_residual-in_err-amount_at-6.result c.from_residual-in_err-amount_at-6.ensures.1 in
    let count : count_fault c.args.k ≡ None = grind (arith, nat_tests) in
    rw (p.1, p.2)
    (rw (count, c.in_ok-new_name.ensures.bad, c.in_ok-new_name.ensures.repeated, c.in_ok-amount_at.ensures.sound, c.in_ok-amount_at-2.ensures.sound, c.in_ok-amount_at-3.ensures.sound, c.in_ok-group_at.ensures.sound, c.in_ok-amount_at-4.ensures.sound, c.in_ok-amount_at-5.ensures.sound, c.in_ok-group_at-2.ensures.sound, c.in_err-amount_at-6.ensures.fault) refl)

pub returns-in_err-amount_at-7-clause-fault : goal.returns-in_err-amount_at-7-clause-fault
returns-in_err-amount_at-7-clause-fault c =
    let p = err_from_is_err_and c.from_residual-in_err-amount_at-7.result c.from_residual-in_err-amount_at-7.ensures.1 in
    let count : count_fault c.args.k ≡ None = grind (arith, nat_tests) in
    rw (p.1, p.2)
    (rw (count, c.in_ok-new_name.ensures.bad, c.in_ok-new_name.ensures.repeated, c.in_ok-amount_at.ensures.sound, c.in_ok-amount_at-2.ensures.sound, c.in_ok-amount_at-3.ensures.sound, c.in_ok-group_at.ensures.sound, c.in_ok-amount_at-4.ensures.sound, c.in_ok-amount_at-5.ensures.sound, c.in_ok-group_at-2.ensures.sound, c.in_ok-amount_at-6.ensures.sound, c.in_err-amount_at-7.ensures.fault) refl)
