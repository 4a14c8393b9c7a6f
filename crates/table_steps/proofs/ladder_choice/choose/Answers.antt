use Rattle.std.proofs.Common.{rules, subst, sym}
use Rattle.linear_step.specs.Weights.{weight_at, prices_of}
use Rattle.table_steps.specs.LadderRungs.{AreRungs}
use Rattle.table_steps.specs.LadderChoices.{HasClimbed}
use Rattle.table_steps.proofs.LadderLimitLemmas.{rungs_read}
use Rattle.table_steps.proofs.LadderPotentialLemmas.{potentials_sums}
use Rattle.table_steps.proofs.LadderAnswerLemmas.{chosen_start, chosen_more, next_free}
use Rattle.table_steps.proofs.ladder_choice.choose.Goals as goal

pub loop-k-init : goal.loop-k-init
loop-k-init c = chosen_start c.args.p.now c.args.node.now (prices_of c.args.weights.now) c.args.ladders.now c.args.numbers.now c.take_beside.new.x
    c.requires.potentials c.take_beside.ensures

pub climb-requires-clause-sums : goal.climb-requires-clause-sums
climb-requires-clause-sums c = potentials_sums c.args.p.now c.args.node.now (weight_at c.args.weights.now) c.args.numbers.now c.requires.potentials

pub climb-requires-clause-rungs : goal.climb-requires-clause-rungs
climb-requires-clause-rungs c =
    let read = rungs_read c.args.ladders.now c.loop-k.k c.index-ladders-k.result (search rules) c.index-ladders-k.is in
    subst (AreRungs c.args.p.now) (sym read) (c.requires.ladders.below.rungs c.loop-k.k (search rules))

pub climb-requires-clause-free : goal.climb-requires-clause-free
climb-requires-clause-free c = λ i li on u.
    let read = rungs_read c.args.ladders.now c.loop-k.k c.index-ladders-k.result (search rules) c.index-ladders-k.is in
    next_free c.args.p.now c.args.node.now (prices_of c.args.weights.now) c.args.ladders.now c.args.numbers.now c.loop-k.k c.loop-k.x
    c.requires.ladders (search rules) c.loop-k.invariant i li (rw read at on) u

pub loop-k-preserved : goal.loop-k-preserved
loop-k-preserved c =
    let read = rungs_read c.args.ladders.now c.loop-k.k c.index-ladders-k.result (search rules) c.index-ladders-k.is in
    chosen_more c.args.p.now c.args.node.now (prices_of c.args.weights.now) c.args.ladders.now c.args.numbers.now c.loop-k.k c.loop-k.x c.climb.new.x
    c.requires.ladders c.requires.potentials (search rules) c.loop-k.invariant
    (subst (λ r. HasClimbed c.args.p.now (prices_of c.args.weights.now) c.args.numbers.now r.ladder c.loop-k.x c.climb.new.x) read c.climb.ensures)
