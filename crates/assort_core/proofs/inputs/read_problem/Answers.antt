use Rattle.std.proofs.Common.{ap}
use Rattle.assort_core.specs.Stages.{InputsData}
use Rattle.assort_core.proofs.SubjectLemmas.{problem_given}
use Rattle.assort_core.proofs.inputs.read_problem.Goals as goal

pub returns-clause-given : goal.returns-clause-given
returns-clause-given g c =
    problem_given c.args.task.now (g.S.Store.view c.args.store.now) c.in-Ok.tables c.tables.inside.catalogue c.in_ok-problem.problem c.requires.model c.requires.arcs c.in-Ok.ensures.given
    (ap (λ (i : InputsData). i.rows) c.tables.view_is) c.in_ok-problem.ensures
