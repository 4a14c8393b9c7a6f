use Rattle.std.proofs.Common.{◌≡◌, ℕ, ◌<◌, None}
use Rattle.limit_rules.specs.Broken.{limit_at}
use Rattle.several_step.specs.Opens.{forced_by}
use Rattle.several_step.proofs.branching.first_forced.Given as goal

abbrev pub invariant-loop-k : goal.invariant-loop-k
invariant-loop-k l = (j : ℕ) → j < l.k → forced_by l.node (limit_at l.p j) ≡ None
