use Rattle.std.proofs.Common.{◌≡◌, ◌∙◌, List, length, subst}
use Rattle.std.proofs.lemmas.Result.{IfOk-weaker}
use Rattle.std.specs.Prelude.{MatchOption}
use Rattle.linear_step.specs.Weights.{prices_of}
use Rattle.linear_step.specs.Answers.{Answers}
use Rattle.offer_model.specs.Assortments.{offers}
use Rattle.cut_step.specs.declared.rows.Row.{Row}
use Rattle.cut_step.specs.Closures.{rows_of, HasNoClosure, IsGreatestClosure}
use Rattle.cut_step.proofs.CloserLemmas.{closure_answers, ready_fits}
use Rattle.cut_step.proofs.step.ClosureStepStep.best.Goals as goal

pub greatest-requires-clause-lists : goal.greatest-requires-clause-lists
greatest-requires-clause-lists g c = ready_fits c.args.self.now c.args._p.now c.args.node.now c.deref.result.now c.requires.fits c.requires.node c.deref.ensures.value

pub returns-clause-answer : goal.returns-clause-answer
returns-clause-answer g c =
    let ready = c.requires.fits in
    let p = c.args._p.now in
    let is : c.deref.result.now ≡ rows_of p.limits = c.deref.ensures.value ∙ ready.rows in
    IfOk-weaker c.greatest.result
    (λ found. MatchOption found (HasNoClosure c.deref.result.now c.args.node.now)
    (λ x. (length x ≡ length c.args.node.now) × IsGreatestClosure c.deref.result.now c.args.node.now c.args.weights.now.items (offers x)))
    (Answers p (prices_of c.args.weights.now) c.args.node.now)
    (λ found h. closure_answers p c.args.node.now c.args.weights.now found ready.kind c.requires.node c.requires.weights.each
    (subst (λ (rows : List Row). MatchOption found (HasNoClosure rows c.args.node.now)
    (λ x. (length x ≡ length c.args.node.now) × IsGreatestClosure rows c.args.node.now c.args.weights.now.items (offers x))) is h))
    c.greatest.ensures.answer
