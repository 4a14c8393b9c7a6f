use Rattle.std.proofs.Common.{rules}
use Rattle.table_steps.proofs.LadderLimitLemmas.{ladders_more}
use Rattle.table_steps.proofs.ladder.all_ladders.Goals as goal

pub loop-k-preserved : goal.loop-k-preserved
loop-k-preserved c =
    let l = c.loop-k in
    rw c.in_ok-push.ensures.items (ladders_more c.args.p.now l.k l.ladders.items c.in_ok-of.field-0 c.get.result.now c.requires (search rules) (search rules) (search rules)
    (c.in_ok-of.ensures.rungs) l.invariant)
