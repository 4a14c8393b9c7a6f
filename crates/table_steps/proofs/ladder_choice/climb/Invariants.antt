use Rattle.linear_step.specs.Weights.{prices_of}
use Rattle.table_steps.proofs.LadderClimbLemmas.{IsClimbing}
use Rattle.table_steps.proofs.ladder_choice.climb.Given as goal

abbrev pub invariant-loop-k : goal.invariant-loop-k
invariant-loop-k l = IsClimbing l.p (prices_of l.weights) l.numbers l.rungs l.k l.want l.last l.fn.x l.x
