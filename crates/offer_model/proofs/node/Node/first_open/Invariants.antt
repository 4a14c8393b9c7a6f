use Rattle.std.proofs.Common.{◌≢◌, ℕ, ◌<◌}
use Rattle.offer_model.specs.declared.node.Mark.TheVariants.{Open}
use Rattle.offer_model.specs.Nodes.{mark_at}
use Rattle.offer_model.proofs.node.Node.first_open.Given as goal

abbrev pub invariant-loop-i : goal.invariant-loop-i
invariant-loop-i l = (k : ℕ) → k < l.i → mark_at l.self k ≢ Open
