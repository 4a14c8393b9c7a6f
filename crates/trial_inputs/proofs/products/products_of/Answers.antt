use Rattle.std.proofs.Common.{arith}
use Rattle.trial_inputs.specs.TrialInputs.{trial_product}
use Rattle.trial_inputs.proofs.ListedLemmas.{mapped_more}
use Rattle.trial_inputs.proofs.products.products_of.Goals as goal

pub loop-i-preserved : goal.loop-i-preserved
loop-i-preserved c = record {
  made = mapped_more trial_product c.args.margins.now.items c.loop-i.products.items c.push.new.self.items c.loop-i.i c.get.result.now c.product_of.result
      c.get.ensures c.loop-i.invariant.made c.product_of.ensures c.push.ensures.items;
  room = omega (arith, c.push.ensures.spare, c.loop-i.invariant.room);
}
