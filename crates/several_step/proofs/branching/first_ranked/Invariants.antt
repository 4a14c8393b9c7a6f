use Rattle.std.proofs.Common.{◌≡◌, ℕ, ◌<◌, false, get_or}
use Rattle.offer_model.specs.Nodes.{mark_at, is_open}
use Rattle.several_step.specs.declared.branch_order.Ranked.{Ranked}
use Rattle.several_step.proofs.branching.first_ranked.Given as goal

abbrev pub invariant-loop-k : goal.invariant-loop-k
invariant-loop-k l = (k : ℕ) (d : Ranked) → k < l.k → is_open (mark_at l.node (get_or l.order k d).product) ≡ false
