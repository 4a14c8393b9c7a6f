use Rattle.std.proofs.Common.{◌≡◌, ℕ, ◌<◌, true, not, ◌||◌}
use Rattle.offer_model.specs.Nodes.{mark_at, is_in}
use Rattle.several_step.specs.Chains.{rung_at, stands}
use Rattle.several_step.proofs.chains.stands_beside.Given as goal

abbrev pub invariant-loop-r : goal.invariant-loop-r
invariant-loop-r l = (r : ℕ) → r < l.r → (not (is_in (mark_at l.node (rung_at l.rungs r).at)) || stands (rung_at l.rungs r) (rung_at l.rungs l.k)) ≡ true
