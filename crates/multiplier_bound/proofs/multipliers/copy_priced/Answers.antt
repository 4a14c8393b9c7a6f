use Rattle.std.proofs.Common.{sym, ◌∙◌, arith}
use Rattle.multiplier_bound.proofs.RelaxLemmas.{kept_yes, kept_no}
use Rattle.multiplier_bound.proofs.multipliers.copy_priced.Goals as goal
use Rattle.multiplier_bound.proofs.multipliers.copy_priced.Goals.{then-is_priced, else-is_priced}

pub loop-k-preserved : goal.loop-k-preserved
loop-k-preserved c = elim c.if-is_priced.branch [
  | then-is_priced w ↦ rw w.priced-is (record {
    kept = kept_yes c.args.limits.now.items c.loop-k.priced.items w.push.new.self.items c.loop-k.k c.get-limit.result.now c.get-limit.ensures (sym c.is_priced.ensures ∙ w.if-is_priced.true) c.loop-k.invariant.kept w.push.ensures.items;
    room = omega (arith, w.push.ensures.spare, c.loop-k.invariant.room);
  })
  | else-is_priced w ↦ rw w.priced-is (record {
    kept = kept_no c.args.limits.now.items c.loop-k.priced.items c.loop-k.k c.get-limit.result.now c.get-limit.ensures (sym c.is_priced.ensures ∙ w.if-is_priced.false) c.loop-k.invariant.kept;
    room = omega (arith, c.loop-k.invariant.room);
  })
]
