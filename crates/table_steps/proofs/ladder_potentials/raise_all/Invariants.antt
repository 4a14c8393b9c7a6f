use Rattle.linear_step.specs.Weights.{weight_at}
use Rattle.table_steps.specs.LadderPotentials.{AreRaised}
use Rattle.table_steps.proofs.ladder_potentials.raise_all.Given as goal

abbrev pub invariant-loop-k : goal.invariant-loop-k
invariant-loop-k l = AreRaised l.p l.node (weight_at l.weights) l.ladders l.k l.numbers
