use Rattle.std.proofs.Common.{◌≡◌, rules, subst}
use Rattle.linear_step.specs.Weights.{prices_of}
use Rattle.table_steps.specs.LadderChoices.{IsSolved}
use Rattle.table_steps.proofs.LadderAnswerLemmas.{solved_closes}
use Rattle.table_steps.proofs.ladder.LadderStepCloser.close.Goals as goal

pub returns-clause-answer : goal.returns-clause-answer
returns-clause-answer c =
    let s = c.solve.new.self in
    let same : s.numbers.items ≡ c.in_ok-listed.field-0.items = search rules in
    solved_closes c.args.p.now c.args.node.now (prices_of c.args.weights.now) c.in_ok-listed.field-0 s.chosen c.requires.fits.are.kind
    (subst (λ us. IsSolved c.args.p.now c.args.node.now (prices_of c.args.weights.now) us s.chosen) same (c.solve.ensures.solved (search rules)))
