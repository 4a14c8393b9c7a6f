use Rattle.std.proofs.Common.{◌≡◌, ◌<◌, ◌≤◌, ℕ, false, length}
use Rattle.offer_model.specs.Assortments.{offers}
use Rattle.cut_step.specs.Searches.{seen}
use Rattle.cut_step.proofs.reach.Reach.assortment.Given as goal

abbrev pub invariant-loop-i : goal.invariant-loop-i
invariant-loop-i l = record {
  each : length l.x ≡ length l.self.spots.items;
  done : (k : ℕ) → k < l.i → offers l.x k ≡ seen l.self.spots.items k;
  rest : (k : ℕ) → l.i ≤ k → offers l.x k ≡ false;
}
