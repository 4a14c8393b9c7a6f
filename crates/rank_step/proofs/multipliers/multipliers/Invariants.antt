use Rattle.std.proofs.Common.{◌≡◌, ℕ, ◌<◌, ◌≤◌, ◌+◌, length, get_or}
use Rattle.rank_step.specs.Multipliers.{multiplier_at}
use Rattle.rank_step.proofs.multipliers.multipliers.Given as goal

abbrev pub invariant-loop-k : goal.invariant-loop-k
invariant-loop-k l = record {
  each : length l.us.items ≡ l.k;
  is : (j : ℕ) → j < l.k → get_or l.us.items j 0 ≡ multiplier_at l.at l.rooms j;
  room : length l.rooms.cutoffs ≤ l.us.spare + l.k;
}
