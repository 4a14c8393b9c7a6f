use Rattle.std.proofs.Common.{List, arith, subst}
use Rattle.offer_model.specs.declared.node.Mark.{Mark}
use Rattle.segment_bound.specs.Kept.{IsKept}
use Rattle.segment_bound.proofs.KeptLemmas.{same_marks}
use Rattle.segment_bound.proofs.follow.follow.Goals as goal

pub returns-clause-kept : goal.returns-clause-kept
returns-clause-kept c =
    let done = c.loop-r-test.false in
    let same = same_marks c.args.order.now c.loop-r.last c.args.node.now c.loop-r.invariant.kept.ranking c.loop-r.invariant.kept.long c.requires.node (λ r l. c.loop-r.invariant.agrees r (omega (arith, done, l))) in
    subst (λ (node : List Mark). IsKept c.args.order.now c.args.segments.now.items node c.loop-r.sums) same c.loop-r.invariant.kept

pub returns-clause-last : goal.returns-clause-last
returns-clause-last c =
    let done = c.loop-r-test.false in
    same_marks c.args.order.now c.loop-r.last c.args.node.now c.loop-r.invariant.kept.ranking c.loop-r.invariant.kept.long c.requires.node (λ r l. c.loop-r.invariant.agrees r (omega (arith, done, l)))
