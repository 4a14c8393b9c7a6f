use Rattle.std.proofs.Common.{sym}
use Rattle.std.proofs.lemmas.Result.{err_from_is_err_and}
use Rattle.assort_core.specs.Stages.{table_stage}
use Rattle.assort_core.proofs.InputLemmas.{stage_unloaded, stage_refused}
use Rattle.assort_core.proofs.inputs.read_table.Goals as goal

pub returns-in-Err-clause-stopped : goal.returns-in-Err-clause-stopped
returns-in-Err-clause-stopped g c = λ k at before.
    stage_unloaded c.in-Err.stop k (table_stage c.args.task.now c.args.file) c.args.task.now (g.S.Store.view c.args.store.now) (g.S.Store.view c.load_input.new.store)
    c.in-Some.name.now at (sym c.in-Some.ensures) (λ told. (c.args.tables.now, before told)) c.in-Err.ensures.stopped

pub returns-in_err-put-clause-stopped : goal.returns-in_err-put-clause-stopped
returns-in_err-put-clause-stopped g c =
    let p = err_from_is_err_and c.from_residual.result c.from_residual.ensures.1 in
    rw (p.1, p.2) (λ k at before.
    stage_refused c.in_err-put.field-0.0 k (table_stage c.args.task.now c.args.file) c.args.task.now (g.S.Store.view c.args.store.now) (g.S.Store.view c.load_input.new.store)
    c.args.tables.now c.in-Some.name.now c.in-Ok.bytes.items at (sym c.in-Some.ensures) before c.in-Ok.ensures.content c.in-Ok.ensures.fits
    (rw c.as_slice.ensures at c.in_err-put.ensures.fault))
