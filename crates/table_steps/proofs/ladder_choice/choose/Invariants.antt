use Rattle.linear_step.specs.Weights.{prices_of}
use Rattle.table_steps.specs.LadderChoices.{IsChosen}
use Rattle.table_steps.proofs.ladder_choice.choose.Given as goal

abbrev pub invariant-loop-k : goal.invariant-loop-k
invariant-loop-k l = IsChosen l.p l.node (prices_of l.weights) l.ladders l.numbers l.k l.x
