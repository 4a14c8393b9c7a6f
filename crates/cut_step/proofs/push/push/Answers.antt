use Rattle.std.proofs.Common.{length, refl}
use Rattle.cut_step.proofs.PushLemmas.{pushed_step}
use Rattle.cut_step.proofs.push.push.Goals as goal

pub loop-at-preserved : goal.loop-at-preserved
loop-at-preserved c =
    let f0 = c.args.flow.now in let f = c.loop-at.flow in let f' = c.carry_over.new.self in
    pushed_step c.args.rows.now (length f0.excess.items) c.args.tree.now c.args.start c.args.d f0.amounts.items f.amounts.items f'.amounts.items
    f0.excess.items f.excess.items f'.excess.items c.loop-at.at c.requires.push.well c.requires.push.names refl c.requires.push.each c.requires.start
    c.requires.enough c.loop-at-test.true c.loop-at.invariant c.carry_over.ensures.amount c.carry_over.ensures.carried
