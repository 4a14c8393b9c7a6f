use Rattle.std.proofs.Common.{◌∙◌}
use Rattle.std.proofs.lemmas.List.{length-set}
use Rattle.assort_core.proofs.EvalLemmas.{marks_more}
use Rattle.assort_core.proofs.commands.eval.read_offer.Goals as goal

pub loop-i-preserved : goal.loop-i-preserved
loop-i-preserved c = rw c.set.ensures (record {
  long = length-set c.loop-i.offered c.loop-i.i _ ∙ c.loop-i.invariant.long;
  marks = marks_more c.as_bytes-digits.result.now c.loop-i.offered c.loop-i.i c.loop-i-test.true c.loop-i.invariant.long c.loop-i.invariant.marks;
})
