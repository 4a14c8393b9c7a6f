use Rattle.std.proofs.Common.{◌≡◌, ◌≤◌, ℕ, false, length}
use Rattle.offer_model.specs.Assortments.{offers}
use Rattle.proof_write.proofs.leaves.end_of_offered.Given as goal

abbrev pub invariant-products : goal.invariant-products
invariant-products l = record {
  inside : l.end ≤ length l.x;
  past : (i : ℕ) → l.end ≤ i → offers l.x i ≡ false;
}

abbrev pub decreases-products : goal.decreases-products
decreases-products l = l.end
