use Rattle.std.proofs.Common.{◌≡◌, drop}
use Rattle.offer_model.specs.LeafBounds.{shelf_space}
use Rattle.leaf_bounds.proofs.shelf.shelf_space.Given as goal

abbrev pub invariant-loop-k : goal.invariant-loop-k
invariant-loop-k l = shelf_space l.limits.items ≡ shelf_space (drop l.k l.limits.items)
