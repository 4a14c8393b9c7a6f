use Rattle.std.proofs.lemmas.Result.{err_from_is_err_and}
use Rattle.assort_core.proofs.SubjectLemmas.{arcs_given, arcs_unloaded, arcs_refused}
use Rattle.assort_core.proofs.chain_inputs.read_arcs.Goals as goal

pub returns-in-Err-clause-stopped : goal.returns-in-Err-clause-stopped
returns-in-Err-clause-stopped g c = λ before.
    arcs_unloaded c.in-Err.stop c.args.task.now (g.S.Store.view c.args.store.now) (g.S.Store.view c.load_input.new.store) c.args.catalogue.now c.arcs.result.now c.arcs.ensures before c.in-Err.ensures.stopped

pub returns-in_err-read_chain-clause-stopped : goal.returns-in_err-read_chain-clause-stopped
returns-in_err-read_chain-clause-stopped g c =
    let p = err_from_is_err_and c.from_residual.result c.from_residual.ensures.1 in
    rw (p.1, p.2) (λ before. arcs_refused c.in_err-read_chain.field-0.0 c.args.task.now (g.S.Store.view c.args.store.now) (g.S.Store.view c.load_input.new.store) c.args.catalogue.now
    c.scale.result c.arcs.result.now c.in-Ok.bytes.items c.scale.ensures.value c.arcs.ensures c.in-Ok.ensures.content c.in-Ok.ensures.fits
    (rw c.as_slice.ensures at c.in_err-read_chain.ensures.fault) before)

pub returns-clause-given : goal.returns-clause-given
returns-clause-given g c = λ told before.
    arcs_given c.args.task.now (g.S.Store.view c.args.store.now) c.arcs.result.now c.in-Ok.bytes.items c.args.catalogue.now c.scale.result c.in_ok-read_chain.field-0.arcs c.scale.ensures.value
    c.arcs.ensures (c.in-Ok.ensures.content told) c.in-Ok.ensures.fits (rw c.as_slice.ensures at c.in_ok-read_chain.ensures.arcs) before
