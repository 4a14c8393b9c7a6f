use Rattle.std.proofs.Common.{ℕ, ◌<◌}
use Rattle.offer_model.specs.Assortments.{offers}
use Rattle.offer_model.specs.Nodes.{mark_at, Agrees}
use Rattle.several_step.proofs.weights_goal.completes.Given as goal

abbrev pub invariant-loop-i : goal.invariant-loop-i
invariant-loop-i l = (k : ℕ) → k < l.i → Agrees (mark_at l.node k) (offers l.x k)
