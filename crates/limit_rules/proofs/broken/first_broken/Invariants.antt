use Rattle.std.proofs.Common.{ℕ, ◌<◌}
use Rattle.offer_model.specs.Limits.{Meets}
use Rattle.limit_rules.specs.Broken.{limit_at}
use Rattle.limit_rules.proofs.broken.first_broken.Given as goal

abbrev pub invariant-loop-k : goal.invariant-loop-k
invariant-loop-k l = (j : ℕ) → j < l.k → Meets l.p l.x (limit_at l.p j)
