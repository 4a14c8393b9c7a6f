use Rattle.std.proofs.Common.{◌≡◌, true, false, rules}
use Rattle.linear_step.specs.Weights.{prices_of}
use Rattle.table_steps.proofs.LadderAnswerLemmas.{chosen_solved}
use Rattle.table_steps.proofs.ladder_choice.solve.Goals as goal

pub returns-clause-solved : goal.returns-clause-solved
returns-clause-solved c = λ t. chosen_solved c.args.p.now c.args.node.now (prices_of c.args.weights.now) c.args.ladders.now c.raise_all.new.numbers c.choose.new.x
    c.requires.ladders c.raise_all.ensures
    (λ k.
    let t : c.clashes.result ≡ true = c.clashes.ensures.1 k in
    let f : c.clashes.result ≡ false = search rules in
    cc)
    c.choose.ensures c.requires.node
