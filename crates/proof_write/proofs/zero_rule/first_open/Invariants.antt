use Rattle.std.proofs.Common.{◌≢◌, ◌<◌, ℕ}
use Rattle.offer_model.specs.declared.node.Mark.TheVariants.{Open}
use Rattle.offer_model.specs.Nodes.{mark_at}
use Rattle.proof_write.proofs.zero_rule.first_open.Given as goal

abbrev pub invariant-loop-i : goal.invariant-loop-i
invariant-loop-i l = (k : ℕ) → k < l.i → mark_at l.node k ≢ Open
