use Rattle.ratio_loop.proofs.TrialLemmas.{answers_earn}
use Rattle.ratio_loop.proofs.ties.completion_at.Goals as goal

pub returns-clause-answer : goal.returns-clause-answer
returns-clause-answer g c =
    answers_earn c.args.p.now c.args.at c.args.weights.now c.args.node.now _ c.requires.at c.requires.greatest c.best_from.ensures.answer
