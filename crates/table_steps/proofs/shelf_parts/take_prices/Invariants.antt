use Rattle.std.proofs.Common.{◌≡◌, ℕ, ◌<◌, ◌≤◌, false, length}
use Rattle.linear_step.specs.Weights.{weight_at}
use Rattle.shelf_table.specs.Tables.{price_in, free_prices, IsSmallPrice}
use Rattle.table_steps.proofs.shelf_parts.take_prices.Given as goal

abbrev pub invariant-loop-i : goal.invariant-loop-i
invariant-loop-i l = record {
  each : length l.prices ≡ length l.fn.prices;
  free : (j : ℕ) → l.start ≤ j → j < l.i → price_in l.prices j ≡ free_prices l.node (weight_at l.weights) j;
  small : (j : ℕ) → j < l.i → IsSmallPrice (price_in l.prices j);
  kept : l.changed ≡ false → l.prices ≡ l.fn.prices;
}
