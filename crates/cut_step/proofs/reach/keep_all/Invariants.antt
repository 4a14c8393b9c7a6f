use Rattle.std.proofs.Common.{◌≡◌, ◌<◌, ◌≤◌, ℕ}
use Rattle.cut_step.specs.Searches.{spot_at, kept_of}
use Rattle.cut_step.proofs.reach.keep_all.Given as goal

abbrev pub invariant-loop-spot : goal.invariant-loop-spot
invariant-loop-spot l = record {
  done : (i : ℕ) → i < l.spot-index → spot_at l.spots i ≡ kept_of (spot_at l.fn.spots i);
  rest : (i : ℕ) → l.spot-index ≤ i → spot_at l.spots i ≡ spot_at l.fn.spots i;
}
