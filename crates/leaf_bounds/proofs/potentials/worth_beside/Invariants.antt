use Rattle.std.proofs.Common.{◌≡◌}
use Rattle.linear_step.specs.Weights.{prices_of}
use Rattle.leaf_bounds.specs.Potentials.{worth_beside}
use Rattle.leaf_bounds.proofs.potentials.worth_beside.Given as goal

abbrev pub invariant-loop-i : goal.invariant-loop-i
invariant-loop-i l = l.sum ≡ worth_beside l.p l.node (prices_of l.weights) l.i
