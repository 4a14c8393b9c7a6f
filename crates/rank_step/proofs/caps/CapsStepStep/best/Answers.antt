use Rattle.std.proofs.Common.{rules}
use Rattle.linear_step.specs.Weights.{prices_of}
use Rattle.linear_step.proofs.CallerLemmas.{clash_has_none}
use Rattle.rank_step.proofs.CutoffLemmas.{filled_greatest}
use Rattle.rank_step.proofs.caps.CapsStepStep.best.Goals as goal

pub returns-then-not-fill-clause-answer : goal.returns-then-not-fill-clause-answer
returns-then-not-fill-clause-answer g c = clash_has_none c.args.p.now c.args.node.now (c.fill.ensures.clash (search rules))

pub returns-clause-answer : goal.returns-clause-answer
returns-clause-answer g c =
    let s = c.fill.new.self in
    rw c.in_ok-copy.ensures (filled_greatest c.args.p.now c.args.node.now (prices_of c.args.weights.now) s.places s.filled s.rooms
    c.requires.node c.fill.ensures.places (c.fill.ensures.filled (search rules)))
