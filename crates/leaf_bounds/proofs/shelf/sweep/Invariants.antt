use Rattle.std.proofs.Common.{◌≡◌, ℕ, ◌+◌, ◌<◌, ◌≤◌, length}
use Rattle.offer_model.specs.LeafBounds.{best_in_space}
use Rattle.linear_step.specs.Weights.{weight_at}
use Rattle.leaf_bounds.specs.Shelves.{cell}
use Rattle.leaf_bounds.proofs.shelf.sweep.Given as goal

abbrev pub invariant-loop-room : goal.invariant-loop-room
invariant-loop-room l = record {
  each : length l.row.items ≡ length l.fn.row.items;
  swept : (r : ℕ) → l.room ≤ r → r < length l.row.items → cell l.row.items r ≡ best_in_space l.p l.node (weight_at l.weights) (l.i + 1) r;
  rest : (r : ℕ) → r < l.room → cell l.row.items r ≡ best_in_space l.p l.node (weight_at l.weights) l.i r;
}
