use Rattle.std.proofs.Common.{refl, sym, ◌∙◌, ◌<◌, length, inr, arith}
use Rattle.worker_rounds.specs.Crews.{HasProducts}
use Rattle.worker_rounds.proofs.ListLemmas.{each_at}
use Rattle.worker_rounds.proofs.ShareLemmas.{shared_self, shared_trans, shared_at, shared_products}
use Rattle.worker_rounds.proofs.GiveLemmas.{donor_more, donor_all}
use Rattle.worker_rounds.proofs.gives.give_nodes.Goals as goal

pub loop-i-init : goal.loop-i-init
loop-i-init g c = record { shared = shared_self _; even = inr tt }

pub give_node-requires : goal.give_node-requires
give_node-requires g c =
    let n = c.args.donor.now.walker.products in
    let p = shared_products n _ _ c.loop-i.invariant.shared (refl, c.requires) in
    let l : c.loop-i.i < length c.loop-i.others = omega (arith, c.loop-i.auto.others, c.loop-i-test.true) in
    each_at (HasProducts n) _ _ _ l p.1 ∙ sym p.0

pub loop-i-preserved : goal.loop-i-preserved
loop-i-preserved g c =
    let l : c.loop-i.i < length c.loop-i.others = omega (arith, c.loop-i.auto.others, c.loop-i-test.true) in
    record {
      shared = shared_trans _ _ _ c.loop-i.invariant.shared (shared_at c.loop-i.donor c.give_node.new.donor c.index-others-i.result c.give_node.new.other c.loop-i.others c.loop-i.i l c.give_node.ensures.shared);
      even = donor_more _ _ _ _ _ _ l c.loop-i.invariant.even c.give_node.ensures.shared c.give_node.ensures.even;
    }

pub returns-clause-even : goal.returns-clause-even
returns-clause-even g c = donor_all c.loop-i.i c.loop-i.donor c.loop-i.others (omega (arith, c.loop-i.auto.others, c.loop-i-test.false)) c.loop-i.invariant.even
