use Rattle.several_step.proofs.SearchLemmas.{answers_from_least}
use Rattle.several_step.proofs.step.SearchStepStep.best.Goals as goal

pub returns-clause-answer : goal.returns-clause-answer
returns-clause-answer g c =
    answers_from_least c.args.p.now c.args.weights.now c.args.node.now _ c.requires.fits.searching.bounding.valid c.requires.weights c.answer.ensures.answer
