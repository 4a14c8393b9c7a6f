use Rattle.std.proofs.Common.{ℕ, ◌<◌}
use Rattle.chain_check.specs.Vectors.{IsBelowAt}
use Rattle.chain_check.proofs.vectors.bounds_below.Given as goal

abbrev pub invariant-loop-i : goal.invariant-loop-i
invariant-loop-i l = (k : ℕ) → k < l.i → IsBelowAt l.chain l.set l.values k
