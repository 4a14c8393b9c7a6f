use Rattle.offer_model.proofs.EarningLemmas.{segment_value-small}
use Rattle.offer_model.proofs.earnings.segment_revenue.Goals as goal

pub returns-clause-bound : goal.returns-clause-bound
returns-clause-bound c =
    let small = segment_value-small c.args.p.now c.args.g c.args.x.now c.share.ensures.valid c.requires.segment in
    rw (c.share.ensures.value, c.gain.ensures.value, c.weight.ensures.value) small
