use Rattle.std.proofs.Common.{ap}
use Rattle.assort_core.specs.Stages.{InputsData}
use Rattle.assort_core.proofs.EvalLemmas.{problem_as_long, problem_named, evaluated_from}
use Rattle.assort_core.proofs.commands.eval.evaluate.Goals as goal

pub report_eval-requires-clause-segments : goal.report_eval-requires-clause-segments
report_eval-requires-clause-segments c =
    problem_named c.args.task.now c.args.tables.now c.tables.inside.segments c.in_ok-problem.problem (ap (λ (i : InputsData). i.segments) c.tables.view_is) c.in_ok-problem.ensures

pub report_eval-requires-clause-products : goal.report_eval-requires-clause-products
report_eval-requires-clause-products c =
    problem_as_long c.args.task.now c.args.tables.now c.tables.inside.catalogue c.in_ok-problem.problem (ap (λ (i : InputsData). i.rows) c.tables.view_is) c.in_ok-problem.ensures

pub returns-clause-answer : goal.returns-clause-answer
returns-clause-answer c =
    evaluated_from c.args.task.now c.args.tables.now c.tables.inside.catalogue c.tables.inside.segments c.in_ok-problem.problem c.args.x.now c.first_broken.result c.status_for.result c.in_ok-report.report.items
    (ap (λ (i : InputsData). i.rows) c.tables.view_is) (ap (λ (i : InputsData). i.segments) c.tables.view_is) c.in_ok-problem.ensures c.requires.offer
    c.first_broken.ensures c.status_for.ensures c.in_ok-report.ensures
