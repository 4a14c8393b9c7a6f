use Rattle.std.proofs.Common.{sym, subst}
use Rattle.assort_core.specs.declared.subject.Subject.{Subject}
use Rattle.assort_core.specs.SolveOutcomes.{IsReport}
use Rattle.assort_core.specs.Solutions.{HasRows}
use Rattle.assort_core.proofs.SolveLemmas.{solution_found}
use Rattle.assort_core.proofs.commands.solve.find_solution.Goals as goal

pub report-requires-clause-rows : goal.report-requires-clause-rows
report-requires-clause-rows g c = subst (λ (s : Subject). HasRows s) (sym c.in_ok-solved.ensures.subject) c.in-Ok.ensures.rows

pub returns-clause-solution : goal.returns-clause-solution
returns-clause-solution g c =
    rw (c.in_ok-solved.ensures.subject) (solution_found c.args.task.now (g.S.Store.view c.args.store.now) (g.S.Store.view c.read_subject.new.store) c.in-Ok.subject
    c.in_ok-report.report.items c.requires c.read_subject.ensures.passes c.in-Ok.ensures.given
    (subst (λ (s : Subject). IsReport s c.in_ok-report.report.items) c.in_ok-solved.ensures.subject c.in_ok-report.ensures))
