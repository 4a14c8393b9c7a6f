use Rattle.std.proofs.Common.{ℕ, ◌<◌, slice_index}
use Rattle.chain_values.specs.Landings.{LandsAt}
use Rattle.chain_values.proofs.landing.lands.Given as goal

abbrev pub invariant-products : goal.invariant-products
invariant-products l = (k : ℕ) → k < l.i → LandsAt l.chain l.rule (slice_index l.values) k
