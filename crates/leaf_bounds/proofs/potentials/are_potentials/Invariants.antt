use Rattle.std.proofs.Common.{ℕ, ◌<◌}
use Rattle.linear_step.specs.Weights.{weight_at}
use Rattle.leaf_bounds.specs.Potentials.{IsPotential}
use Rattle.leaf_bounds.proofs.potentials.are_potentials.Given as goal

abbrev pub invariant-loop-i : goal.invariant-loop-i
invariant-loop-i l = (k : ℕ) → k < l.i → IsPotential l.p (weight_at l.weights) l.usable l.numbers.items k
