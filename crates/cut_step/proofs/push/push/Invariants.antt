use Rattle.cut_step.specs.Trees.{Pushed}
use Rattle.cut_step.proofs.push.push.Given as goal

abbrev pub invariant-loop-at : goal.invariant-loop-at
invariant-loop-at l = Pushed l.rows l.tree l.fn.start l.d l.fn.flow.amounts.items l.fn.flow.excess.items l.at l.flow.amounts.items l.flow.excess.items

abbrev pub decreases-loop-at : goal.decreases-loop-at
decreases-loop-at l = l.at
