use Rattle.std.proofs.Common.{◌≡◌, length}
use Rattle.linear_step.specs.Weights.{weight_at}
use Rattle.leaf_bounds.specs.Shelves.{IsRow}
use Rattle.leaf_bounds.proofs.shelf.sweep_all.Given as goal

abbrev pub invariant-loop-i : goal.invariant-loop-i
invariant-loop-i l = record {
  each : length l.row.items ≡ length l.fn.row.items;
  row : IsRow l.p l.node (weight_at l.weights) l.i l.row.items;
}
