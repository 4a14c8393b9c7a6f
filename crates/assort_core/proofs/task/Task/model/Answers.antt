use Rattle.std.proofs.Common.{subst}
use Rattle.assort_words.specs.Asked.{IsComplete}
use Rattle.assort_core.proofs.TaskLemmas.{no_arcs, no_limits, no_segments}
use Rattle.assort_core.proofs.task.Task.model.Goals as goal

pub returns-clause-arcs : goal.returns-clause-arcs
returns-clause-arcs c = no_arcs c.args.self.now (subst IsComplete c.self.view_is c.self.invariant)

pub returns-clause-limits : goal.returns-clause-limits
returns-clause-limits c = no_limits c.args.self.now (subst IsComplete c.self.view_is c.self.invariant)

pub returns-clause-segments : goal.returns-clause-segments
returns-clause-segments c = no_segments c.args.self.now (subst IsComplete c.self.view_is c.self.invariant)
