use Rattle.std.proofs.Common.{subst}
use Rattle.assort_words.specs.Asked.{IsComplete}
use Rattle.assort_core.proofs.TaskLemmas.{trial_alone}
use Rattle.assort_core.proofs.task.Task.count.Goals as goal

pub returns-clause-alone : goal.returns-clause-alone
returns-clause-alone c = trial_alone c.args.self.now (subst IsComplete c.self.view_is c.self.invariant) c.requires
