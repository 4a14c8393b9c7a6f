use Rattle.std.proofs.Common.{ℕ, ◌<◌}
use Rattle.chain_check.specs.Vectors.{IsAboveAt}
use Rattle.chain_check.proofs.vectors.bounds_above.Given as goal

abbrev pub invariant-loop-i : goal.invariant-loop-i
invariant-loop-i l = (k : ℕ) → k < l.i → IsAboveAt l.chain l.values k
