use Rattle.std.proofs.Common.{◌≡◌, ℕ, ◌-◌, ◌*◌, ◌<◌, ◌≤◌, length}
use Rattle.std.specs.Prelude.{slice_index}
use Rattle.offer_model.specs.Problems.{product_count}
use Rattle.offer_model.specs.LeafBounds.{ladder_of}
use Rattle.linear_step.specs.Weights.{weight_at, price_bound}
use Rattle.table_steps.specs.LadderPotentials.{IsPotential}
use Rattle.table_steps.proofs.ladder_potentials.raise.Given as goal

abbrev pub invariant-loop-k : goal.invariant-loop-k
invariant-loop-k l = record {
  each : length l.numbers ≡ product_count l.p;
  potentials : (q : ℕ) → l.k ≤ q → q < length l.rungs.products
      → IsPotential l.p l.node (weight_at l.weights) l.numbers (slice_index l.rungs.products q) (slice_index l.numbers (slice_index l.rungs.products q));
  small : (q : ℕ) → l.k ≤ q → q < length l.rungs.products
      → slice_index l.numbers (slice_index l.rungs.products q) ≤ (length l.rungs.products - l.k) * price_bound;
  others : (i : ℕ) → (ladder_of l.p i ≡ l.rungs.ladder → ⊥) → slice_index l.numbers i ≡ slice_index l.fn.numbers i;
}
