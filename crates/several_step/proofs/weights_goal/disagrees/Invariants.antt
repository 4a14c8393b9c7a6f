use Rattle.std.proofs.Common.{◌≡◌, ℕ, ◌<◌, false}
use Rattle.offer_model.specs.Nodes.{mark_at}
use Rattle.several_step.specs.WeightGoals.{is_opposite}
use Rattle.several_step.proofs.weights_goal.disagrees.Given as goal

abbrev pub invariant-loop-i : goal.invariant-loop-i
invariant-loop-i l = (k : ℕ) → k < l.i → is_opposite (mark_at l.root k) (mark_at l.node k) ≡ false
