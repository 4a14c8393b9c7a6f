use Rattle.std.proofs.Common.{◌∙◌, ap, length, length-set}
use Rattle.proof_tree.proofs.DigitLemmas.{written_more}
use Rattle.proof_tree.proofs.digits.write_set.Goals as goal

pub loop-i-preserved : goal.loop-i-preserved
loop-i-preserved c = record {
  each = ap length c.set.ensures ∙ length-set _ _ _ ∙ c.loop-i.invariant.each;
  written = written_more c.loop-i.x c.set.new.self c.args.digits.now.items c.loop-i.i c.get.result.now c.loop-i.invariant.each c.requires.digits c.get.ensures c.set.ensures c.loop-i.invariant.written;
}
