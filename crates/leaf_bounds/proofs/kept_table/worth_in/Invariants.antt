use Rattle.std.proofs.Common.{◌≡◌}
use Rattle.linear_step.specs.Weights.{prices_of}
use Rattle.leaf_bounds.proofs.KeptLemmas.{worth_below}
use Rattle.leaf_bounds.proofs.kept_table.worth_in.Given as goal

abbrev pub invariant-loop-i : goal.invariant-loop-i
invariant-loop-i l = l.sum ≡ worth_below l.node (prices_of l.weights) l.i
