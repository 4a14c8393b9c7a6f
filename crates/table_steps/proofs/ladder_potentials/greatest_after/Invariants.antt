use Rattle.table_steps.specs.LadderPotentials.{IsGreatestAfter}
use Rattle.table_steps.proofs.ladder_potentials.greatest_after.Given as goal

abbrev pub invariant-loop-q : goal.invariant-loop-q
invariant-loop-q l = IsGreatestAfter l.p l.numbers l.list l.last l.from l.q l.greatest
