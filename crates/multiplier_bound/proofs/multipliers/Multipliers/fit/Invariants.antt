use Rattle.std.proofs.Common.{ℕ, ◌<◌}
use Rattle.std.specs.Prelude.{slice_index}
use Rattle.offer_model.specs.LeafBounds.{priced_limit_at, IsMultiplier}
use Rattle.multiplier_bound.proofs.multipliers.Multipliers.fit.Given as goal

abbrev pub invariant-loop-k : goal.invariant-loop-k
invariant-loop-k l = (j : ℕ) → j < l.k → IsMultiplier (priced_limit_at l.p j) (slice_index l.numbers.items j)
