use Rattle.std.proofs.lemmas.Result.{err_from_is_err_and}
use Rattle.arc_tables.proofs.ArrivalLemmas.{some_arrive}
use Rattle.assort_core.proofs.SubjectLemmas.{catalogue_given, catalogue_unloaded, catalogue_refused}
use Rattle.assort_core.proofs.chain_inputs.read_catalogue.Goals as goal

pub returns-in-Err-clause-stopped : goal.returns-in-Err-clause-stopped
returns-in-Err-clause-stopped g c =
    catalogue_unloaded c.in-Err.stop c.args.task.now (g.S.Store.view c.args.store.now) (g.S.Store.view c.load_input.new.store) c.products.result.now c.products.ensures c.in-Err.ensures.stopped

pub returns-in_err-read_products-clause-stopped : goal.returns-in_err-read_products-clause-stopped
returns-in_err-read_products-clause-stopped g c =
    let p = err_from_is_err_and c.from_residual.result c.from_residual.ensures.1 in
    rw (p.1, p.2) (catalogue_refused c.in_err-read_products.field-0.0 c.args.task.now (g.S.Store.view c.args.store.now) (g.S.Store.view c.load_input.new.store) c.products.result.now c.in-Ok.bytes.items
    c.requires c.products.ensures c.in-Ok.ensures.content c.in-Ok.ensures.fits (rw c.as_slice.ensures at c.in_err-read_products.ensures.fault))

pub returns-clause-arrive : goal.returns-clause-arrive
returns-clause-arrive g c = some_arrive c.in-Ok.bytes.items c.in_ok-read_products.field-0 (rw c.as_slice.ensures at c.in_ok-read_products.ensures.rows)

pub returns-clause-given : goal.returns-clause-given
returns-clause-given g c = λ told.
    catalogue_given c.args.task.now (g.S.Store.view c.args.store.now) c.products.result.now c.in-Ok.bytes.items c.in_ok-read_products.field-0 c.requires c.products.ensures
    (c.in-Ok.ensures.content told) c.in-Ok.ensures.fits (rw c.as_slice.ensures at c.in_ok-read_products.ensures.rows)
