use Rattle.std.proofs.Common.{ℕ, ◌<◌, ◌^◌}
use Rattle.linear_weights.specs.Weights.{IsWithin, weight_at}
use Rattle.several_step.proofs.scaling.are_small.Given as goal

abbrev pub invariant-loop-i : goal.invariant-loop-i
invariant-loop-i l = (k : ℕ) → k < l.i → IsWithin (2 ^ 88) (weight_at l.weights k)
