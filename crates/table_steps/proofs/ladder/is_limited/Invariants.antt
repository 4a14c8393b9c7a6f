use Rattle.std.proofs.Common.{◌≡◌, ℕ, ◌<◌}
use Rattle.offer_model.specs.declared.products.Limit.TheVariants.{Ladder}
use Rattle.limit_rules.specs.Broken.{limit_at}
use Rattle.table_steps.proofs.ladder.is_limited.Given as goal

abbrev pub invariant-loop-k : goal.invariant-loop-k
invariant-loop-k l = (j : ℕ) → j < l.k → limit_at l.p j ≡ Ladder l.ladder → ⊥
