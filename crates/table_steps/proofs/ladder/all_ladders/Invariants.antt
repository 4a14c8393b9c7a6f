use Rattle.table_steps.specs.LadderFits.{AreLaddersBelow}
use Rattle.table_steps.proofs.ladder.all_ladders.Given as goal

abbrev pub invariant-loop-k : goal.invariant-loop-k
invariant-loop-k l = AreLaddersBelow l.p l.k l.ladders.items
