use Rattle.std.proofs.Common.{◌≡◌, ℕ, ◌+◌, ◌*◌, ◌<◌, ◌≤◌, length}
use Rattle.shelf_table.specs.Tables.{price_in, space_of, best_from}
use Rattle.shelf_table.proofs.table.fill_rows.Given as goal

abbrev pub invariant-loop-k : goal.invariant-loop-k
invariant-loop-k l = record {
  each : length l.cells ≡ length l.fn.cells;
  rows : (j room : ℕ) → l.k ≤ j → j ≤ length l.prices → room < l.width
      → price_in l.cells (j * l.width + room) ≡ best_from (space_of l.p) (price_in l.prices) (length l.prices) j room;
}
