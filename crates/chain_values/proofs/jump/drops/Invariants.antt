use Rattle.std.proofs.Common.{◌≡◌, ℕ, ◌<◌, ◌≤◌, ◌-◌, ◌^◌, get_or, slice_index}
use Rattle.chain_values.specs.Sweeps.{next_value}
use Rattle.chain_values.proofs.jump.drops.Given as goal

abbrev pub invariant-products : goal.invariant-products
invariant-products l = record {
  value : (k : ℕ) → k < l.i → get_or l.guess k 0 ≡ get_or l.values k 0 - next_value l.chain l.rule (slice_index l.values) k;
  small : (k : ℕ) → k < l.i → get_or l.guess k 0 ≤ 10 ^ 15;
}
