use Rattle.std.proofs.Common.{◌≡◌, ℕ, ◌+◌, ◌-◌, ◌<◌, ◌≤◌, length}
use Rattle.std.specs.Prelude.{nat_le, ◌+ℤ◌}
use Rattle.shelf_table.specs.Tables.{price_in, better_of}
use Rattle.shelf_table.proofs.table.fill_row.Given as goal

abbrev pub invariant-loop-room : goal.invariant-loop-room
invariant-loop-room l = record {
  each : length l.cells ≡ length l.fn.cells;
  row : (s : ℕ) → s < l.room → price_in l.cells (l.start + s)
      ≡ better_of (nat_le l.space s) (price_in l.fn.cells (l.start + l.width + s)) (l.price +ℤ price_in l.fn.cells (l.start + l.width + (s - l.space)));
  rest : (j : ℕ) → l.start + l.width ≤ j → price_in l.cells j ≡ price_in l.fn.cells j;
}
