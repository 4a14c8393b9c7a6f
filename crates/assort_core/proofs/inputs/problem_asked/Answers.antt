use Rattle.std.proofs.Common.{sym, subst}
use Rattle.offer_model.specs.Validity.{HasLimits}
use Rattle.catalogue.specs.CatalogueProblems.{problem_data_of}
use Rattle.assort_core.specs.Stages.{InputsData}
use Rattle.assort_core.proofs.inputs.problem_asked.Goals as goal

pub problem_of-requires-clause-limits : goal.problem_of-requires-clause-limits
problem_of-requires-clause-limits c =
    subst (λ (i : InputsData). HasLimits (problem_data_of i.rows c.model.result c.none.result c.unit.result i.segments i.limits)) (sym c.tables.view_is)
    (c.requires.fit.limits c.model.result c.none.result c.unit.result c.args.tables.now.segments)
