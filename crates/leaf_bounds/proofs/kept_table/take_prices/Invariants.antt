use Rattle.std.proofs.Common.{◌≡◌, ℕ, ◌<◌, false, length}
use Rattle.linear_step.specs.Weights.{weight_at}
use Rattle.shelf_table.specs.Tables.{price_in}
use Rattle.leaf_bounds.proofs.kept_table.take_prices.Given as goal

abbrev pub invariant-loop-i : goal.invariant-loop-i
invariant-loop-i l = record {
  each : length l.prices.items ≡ length l.fn.prices.items;
  taken : (j : ℕ) → j < l.i → price_in l.prices.items j ≡ weight_at l.weights j;
  kept : l.changed ≡ false → l.prices.items ≡ l.fn.prices.items;
}
