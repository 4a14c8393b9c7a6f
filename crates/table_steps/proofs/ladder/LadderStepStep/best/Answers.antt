use Rattle.std.proofs.Common.{rules}
use Rattle.linear_step.specs.Weights.{prices_of}
use Rattle.linear_step.proofs.CallerLemmas.{clash_has_none}
use Rattle.table_steps.proofs.LadderAnswerLemmas.{solved_greatest}
use Rattle.table_steps.proofs.ladder.LadderStepStep.best.Goals as goal

pub returns-then-not-solve-clause-answer : goal.returns-then-not-solve-clause-answer
returns-then-not-solve-clause-answer g c = clash_has_none c.args.p.now c.args.node.now (c.solve.ensures.clash (search rules))

pub returns-clause-answer : goal.returns-clause-answer
returns-clause-answer g c =
    let s = c.solve.new.self in
    rw c.in_ok-copy.ensures (solved_greatest c.args.p.now c.args.node.now (prices_of c.args.weights.now) s.numbers.items s.chosen
    (c.solve.ensures.solved (search rules)))
