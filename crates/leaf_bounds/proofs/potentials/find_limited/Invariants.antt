use Rattle.std.proofs.Common.{◌≡◌, ℕ, ◌<◌, length}
use Rattle.offer_model.specs.Assortments.{offers}
use Rattle.offer_model.specs.Problems.{product_count}
use Rattle.offer_model.specs.LeafBounds.{is_limited, ladder_of}
use Rattle.leaf_bounds.proofs.potentials.find_limited.Given as goal

abbrev pub invariant-loop-i : goal.invariant-loop-i
invariant-loop-i l = record {
  each : length l.limited ≡ product_count l.p;
  is : (k : ℕ) → k < l.i → offers l.limited k ≡ is_limited l.p.limits (ladder_of l.p k);
}
