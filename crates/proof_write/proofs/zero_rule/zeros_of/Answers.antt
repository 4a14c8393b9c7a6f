use Rattle.std.proofs.Common.{sym, ◌∙◌, arith}
use Rattle.proof_write.proofs.ZeroLemmas.{zeros_more, zeros_same}
use Rattle.proof_write.proofs.zero_rule.zeros_of.Goals as goal
use Rattle.proof_write.proofs.zero_rule.zeros_of.Goals.{then-has_multiplier, else-has_multiplier}

pub loop-k-preserved : goal.loop-k-preserved
loop-k-preserved c = elim c.if-has_multiplier.branch [
  | then-has_multiplier w ↦ rw w.zeros-is (record {
    zeros = zeros_more c.limits-limits.result.now.items c.loop-k.zeros.items w.push.new.self.items c.loop-k.k c.get-limit.result.now c.get-limit.ensures
        (sym c.has_multiplier.ensures ∙ w.if-has_multiplier.true) c.loop-k.invariant.zeros w.push.ensures.items;
    room = omega (arith, w.push.ensures.spare, c.loop-k.invariant.room);
  })
  | else-has_multiplier w ↦ rw w.zeros-is (record {
    zeros = zeros_same c.limits-limits.result.now.items c.loop-k.zeros.items c.loop-k.k c.get-limit.result.now c.get-limit.ensures
        (sym c.has_multiplier.ensures ∙ w.if-has_multiplier.false) c.loop-k.invariant.zeros;
    room = omega (arith, c.loop-k.invariant.room);
  })
]
