use Rattle.std.proofs.Common.{◌≡◌, ℕ, ◌<◌, length, get_or}
use Rattle.rank_step.specs.Caps.{cap_of, limit_at}
use Rattle.rank_step.proofs.rooms.Rooms.reset.Given as goal

abbrev pub invariant-loop-k : goal.invariant-loop-k
invariant-loop-k l = record {
  left_each : length l.self-inside.left.items ≡ length l.p.limits;
  cutoffs_each : length l.self-inside.cutoffs.items ≡ length l.p.limits;
  left : (j : ℕ) → j < l.k → get_or l.self-inside.left.items j 0 ≡ cap_of (limit_at l.p j);
  cutoffs : (j : ℕ) → j < l.k → get_or l.self-inside.cutoffs.items j 0 ≡ 0;
}
