use Rattle.multiplier_bound.proofs.multipliers.move_by_all.Given as goal
use Rattle.linear_weights.specs.Weights.{prices_of}
use Rattle.multiplier_bound.specs.Pricing.{AreRelaxed}

abbrev pub invariant-loop-k : goal.invariant-loop-k
invariant-loop-k l = AreRelaxed l.p l.numbers.items (prices_of l.weights) l.list l.k
