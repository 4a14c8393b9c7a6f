use Rattle.std.proofs.Common.{rules}
use Rattle.linear_step.specs.Weights.{prices_of}
use Rattle.rank_step.proofs.CutoffLemmas.{filled_closes}
use Rattle.rank_step.proofs.caps.CapsStepCloser.close.Goals as goal

pub returns-clause-answer : goal.returns-clause-answer
returns-clause-answer c =
    let s = c.fill.new.self in
    filled_closes c.args.p.now c.args.node.now (prices_of c.args.weights.now) s.places s.filled s.rooms c.in_ok-us.us
    c.requires.node c.fill.ensures.places (c.fill.ensures.filled (search rules)) c.in_ok-us.ensures
