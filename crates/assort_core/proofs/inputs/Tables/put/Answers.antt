use Rattle.std.proofs.Common.{◌≡◌, Ok, [], sym, subst}
use Rattle.std.proofs.lemmas.Result.{err_from_is_err_and}
use Rattle.assort_core.specs.Stages.{InputsData, table_outcome, FitTogether}
use Rattle.assort_core.proofs.TableLemmas.{products_faulty, products_put, segments_fit}
use Rattle.assort_core.proofs.inputs.Tables.put.Goals as goal

pub returns-in_err-self-inside-in-Products-clause-fault : goal.returns-in_err-self-inside-in-Products-clause-fault
returns-in_err-self-inside-in-Products-clause-fault c =
    let p = err_from_is_err_and c.from_residual.result c.from_residual.ensures.1 in
    rw (p.1, p.2) (products_faulty c.in_err-self-inside-in-Products.field-0.0 c.args.file c.args.task.now c.model.result c.args.self.now c.args.bytes.now
    c.in-Products.is c.model.ensures.value c.in_err-self-inside-in-Products.ensures.fault)

pub returns-in_ok-self-inside-in-Products-clause-given : goal.returns-in_ok-self-inside-in-Products-clause-given
returns-in_ok-self-inside-in-Products-clause-given c =
    let rows = c.in_ok-self-inside-in-Products.field-0 in
    let i : InputsData = record { rows = c.self.inside.catalogue; limits = c.self.inside.limits.items; segments = c.self.inside.segments; arcs = []; proof = [] } in
    subst (λ (j : InputsData). table_outcome c.args.file c.args.task.now j c.args.bytes.now
    ≡ Ok (record { rows = rows; limits = c.self.inside.limits.items; segments = c.self.inside.segments; arcs = []; proof = [] })) c.self.view_is
    (products_put c.args.file c.args.task.now c.model.result i c.args.bytes.now rows c.in-Products.is c.model.ensures.value c.in_ok-self-inside-in-Products.ensures.rows)

pub returns-in_ok-self-inside-in-Segments-clause-fit : goal.returns-in_ok-self-inside-in-Segments-clause-fit
returns-in_ok-self-inside-in-Segments-clause-fit c =
    let i : InputsData = record { rows = c.self.inside.catalogue; limits = c.self.inside.limits.items; segments = c.self.inside.segments; arcs = []; proof = [] } in
    segments_fit c.args.task.now i c.unit.result c.in_ok-self-inside-in-Segments.field-0 c.unit.ensures.value
    (subst (FitTogether c.args.task.now) (sym c.self.view_is) c.requires.fit) c.in_ok-self-inside-in-Segments.ensures.fits
