use Rattle.std.proofs.Common.{◌≡◌, ◌<◌, ℕ}
use Rattle.cut_step.specs.Closures.{price_at}
use Rattle.cut_step.proofs.flow.set_excess.Given as goal

abbrev pub invariant-loop-i : goal.invariant-loop-i
invariant-loop-i l = (k : ℕ) → k < l.i → price_at l.excess k ≡ price_at l.weights.items k
