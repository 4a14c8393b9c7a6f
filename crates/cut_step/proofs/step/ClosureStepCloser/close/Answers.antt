use Rattle.std.proofs.Common.{◌≡◌, ◌∙◌, List, subst}
use Rattle.cut_step.specs.declared.rows.Row.{Row}
use Rattle.cut_step.specs.Closures.{rows_of}
use Rattle.cut_step.specs.Phases.{IsDone}
use Rattle.cut_step.proofs.CloserLemmas.{done_closes, ready_fits}
use Rattle.cut_step.proofs.step.ClosureStepCloser.close.Goals as goal

pub multipliers-requires-clause-lists : goal.multipliers-requires-clause-lists
multipliers-requires-clause-lists c = ready_fits c.args.self.now c.args.p.now c.args.node.now c.deref.result.now c.requires.fits c.requires.node c.deref.ensures.value

pub returns-clause-answer : goal.returns-clause-answer
returns-clause-answer c =
    let ready = c.requires.fits in
    let p = c.args.p.now in
    let is : c.deref.result.now ≡ rows_of p.limits = c.deref.ensures.value ∙ ready.rows in
    let done = c.in_ok-numbers.ensures.answer in
    done_closes p c.args.node.now c.args.weights.now c.multipliers.new.flow.excess.items c.in_ok-numbers.numbers c.multipliers.new.reach.spots.items
    done.0 ready.kind c.requires.node c.requires.weights (λ k. let yes = c.clashes.ensures.1 k in cc)
    (subst (λ (rows : List Row). IsDone rows c.args.node.now c.args.weights.now.items c.multipliers.new.flow.excess.items c.in_ok-numbers.numbers.items
    c.multipliers.new.reach.spots.items done.0) is done.1)
