use Rattle.assort_core.specs.Solutions.{subject_of}
use Rattle.assort_core.proofs.InputLemmas.{later_stop}
use Rattle.assort_core.proofs.LeavingLemmas.{passes_part, later_whole, later_part}
use Rattle.assort_core.proofs.SolveLemmas.{solution_answer, may_certify}
use Rattle.assort_core.proofs.commands.solve.solve.Goals as goal

pub write_output-requires-clause-may : goal.write_output-requires-clause-may
write_output-requires-clause-may g c =
    may_certify c.args.task.now (g.S.Store.view c.find_solution.new.store) (subject_of c.in-Ok.solution.solved) c.in-Ok.solution.report.items c.requires c.in-Ok.ensures.solution

pub returns-in-Err-clause-part : goal.returns-in-Err-clause-part
returns-in-Err-clause-part g c =
    passes_part c.args.task.now (g.S.Store.view c.args.store.now) (g.S.Store.view c.find_solution.new.store) c.in-Err.stop c.find_solution.ensures.passes

pub returns-in-Err-write_output-clause-stopped : goal.returns-in-Err-write_output-clause-stopped
returns-in-Err-write_output-clause-stopped g c =
    later_stop c.in-Err-write_output.stop c.args.task.now (g.S.Store.view c.args.store.now) (g.S.Store.view c.find_solution.new.store) (g.S.Store.view c.write_output.new.store)
    c.find_solution.ensures.passes c.in-Err-write_output.ensures.stopped

pub returns-in-Err-write_output-clause-part : goal.returns-in-Err-write_output-clause-part
returns-in-Err-write_output-clause-part g c =
    later_part c.args.task.now (g.S.Store.view c.args.store.now) (g.S.Store.view c.find_solution.new.store) (g.S.Store.view c.write_output.new.store) c.in-Err-write_output.stop
    c.find_solution.ensures.passes c.in-Err-write_output.ensures.part

pub returns-in-Ok-write_output-clause-whole : goal.returns-in-Ok-write_output-clause-whole
returns-in-Ok-write_output-clause-whole g c =
    later_whole c.args.task.now (g.S.Store.view c.args.store.now) (g.S.Store.view c.find_solution.new.store) (g.S.Store.view c.write_output.new.store)
    c.find_solution.ensures.passes c.in-Ok-write_output.ensures.whole

pub returns-in-Ok-write_output-clause-answer : goal.returns-in-Ok-write_output-clause-answer
returns-in-Ok-write_output-clause-answer g c = λ told.
    solution_answer c.args.task.now (g.S.Store.view c.args.store.now) (g.S.Store.view c.find_solution.new.store)
    (subject_of c.in-Ok.solution.solved) c.in-Ok.solution.report.items c.requires c.find_solution.ensures.passes c.in-Ok.ensures.solution told
