use Rattle.several_step.specs.Chains.{AreRungsBelow}
use Rattle.several_step.proofs.rungs.list_rungs.Given as goal

abbrev pub invariant-loop-i : goal.invariant-loop-i
invariant-loop-i l = AreRungsBelow l.p l.i l.rungs.items l.limited.items
