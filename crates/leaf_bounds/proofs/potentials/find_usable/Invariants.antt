use Rattle.std.proofs.Common.{◌≡◌, ℕ, ◌<◌, ◌↔◌, IsTrue, length}
use Rattle.offer_model.specs.Assortments.{offers}
use Rattle.offer_model.specs.Problems.{product_count}
use Rattle.offer_model.specs.LeafBounds.{IsUsable}
use Rattle.leaf_bounds.proofs.potentials.find_usable.Given as goal

abbrev pub invariant-loop-i : goal.invariant-loop-i
invariant-loop-i l = record {
  each : length l.usable ≡ product_count l.p;
  is : (k : ℕ) → k < l.i → IsTrue (offers l.usable k) ↔ IsUsable l.p l.node k;
}
