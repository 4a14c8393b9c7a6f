use Rattle.std.proofs.Common.{ℕ, ◌<◌}
use Rattle.offer_model.specs.Nodes.{ClashesAt}
use Rattle.limit_rules.specs.Broken.{limit_at}
use Rattle.limit_rules.proofs.clash.clashes.Given as goal

abbrev pub invariant-loop-k : goal.invariant-loop-k
invariant-loop-k l = (j : ℕ) → j < l.k → ClashesAt l.p l.node (limit_at l.p j) → ⊥
