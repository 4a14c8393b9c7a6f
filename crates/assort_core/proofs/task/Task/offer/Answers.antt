use Rattle.std.proofs.Common.{subst}
use Rattle.assort_words.specs.Asked.{IsComplete}
use Rattle.assort_core.proofs.TaskLemmas.{eval_known, no_arcs}
use Rattle.assort_core.proofs.task.Task.offer.Goals as goal

pub returns-clause-known : goal.returns-clause-known
returns-clause-known c = eval_known c.args.self.now (subst IsComplete c.self.view_is c.self.invariant) c.requires

pub returns-clause-arcs : goal.returns-clause-arcs
returns-clause-arcs c =
    let whole = subst IsComplete c.self.view_is c.self.invariant in
    no_arcs c.args.self.now whole (eval_known c.args.self.now whole c.requires)
