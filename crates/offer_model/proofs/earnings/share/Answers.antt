use Rattle.offer_model.proofs.EarningLemmas.{share_most}
use Rattle.offer_model.proofs.earnings.share.Goals as goal

pub returns-clause-bound : goal.returns-clause-bound
returns-clause-bound c =
    let small = share_most c.args.p.now c.args.g c.size.ensures.valid c.requires.segment in
    rw (c.from.ensures, c.from-2.ensures, c.size.ensures.value, c.unit.ensures.value) small
