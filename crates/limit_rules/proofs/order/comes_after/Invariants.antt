use Rattle.std.proofs.Common.{◌≡◌, ℕ, ◌<◌}
use Rattle.offer_model.specs.Assortments.{offers}
use Rattle.offer_model.specs.Nodes.{fill_of}
use Rattle.limit_rules.proofs.order.comes_after.Given as goal

abbrev pub invariant-loop-i : goal.invariant-loop-i
invariant-loop-i l = (k : ℕ) → k < l.i → offers (fill_of l.node) k ≡ offers l.x k
