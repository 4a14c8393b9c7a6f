use Rattle.std.proofs.Common.{◌≡◌, true, rules, subst, sym}
use Rattle.offer_model.specs.LeafBounds.{is_limited}
use Rattle.linear_step.specs.Weights.{weight_at}
use Rattle.table_steps.specs.LadderRungs.{AreRungs}
use Rattle.table_steps.specs.LadderPotentials.{HasRaised}
use Rattle.table_steps.proofs.LadderLimitLemmas.{ladder_limited, rungs_read}
use Rattle.table_steps.proofs.LadderPotentialLemmas.{raised_all_more, raised_last}
use Rattle.table_steps.proofs.ladder_potentials.raise_all.Goals as goal

pub raise-requires-clause-rungs : goal.raise-requires-clause-rungs
raise-requires-clause-rungs c =
    let read = rungs_read c.args.ladders.now c.loop-k.k c.index-ladders-k.result (search rules) c.index-ladders-k.is in
    subst (AreRungs c.args.p.now) (sym read) (c.requires.ladders.below.rungs c.loop-k.k (search rules))

pub raise-requires-clause-limited : goal.raise-requires-clause-limited
raise-requires-clause-limited c =
    let read = rungs_read c.args.ladders.now c.loop-k.k c.index-ladders-k.result (search rules) c.index-ladders-k.is in
    subst (λ r. is_limited c.args.p.now.limits r.ladder ≡ true) (sym read) (ladder_limited c.args.p.now c.args.ladders.now c.loop-k.k c.requires.ladders (search rules))

pub loop-k-preserved : goal.loop-k-preserved
loop-k-preserved c =
    let read = rungs_read c.args.ladders.now c.loop-k.k c.index-ladders-k.result (search rules) c.index-ladders-k.is in
    raised_all_more c.args.p.now c.args.node.now (weight_at c.args.weights.now) c.args.ladders.now c.loop-k.k c.loop-k.numbers c.raise.new.numbers
    c.loop-k.invariant
    (subst (λ r. HasRaised c.args.p.now c.args.node.now (weight_at c.args.weights.now) r.ladder c.loop-k.numbers c.raise.new.numbers) read c.raise.ensures)

pub returns : goal.returns
returns c = raised_last c.args.p.now c.args.node.now (weight_at c.args.weights.now) c.args.ladders.now c.loop-k.k c.loop-k.numbers c.requires.ladders (search rules)
    c.loop-k.invariant
