use Rattle.linear_step.specs.Weights.{prices_of}
use Rattle.rank_step.proofs.FreeLemmas.{free_greatest}
use Rattle.rank_step.proofs.free.FreeStepStep.best.Goals as goal

pub returns-clause-answer : goal.returns-clause-answer
returns-clause-answer g c = (free_greatest c.args.p.now c.args.node.now (prices_of c.args.weights.now) c.take_all.new.x c.requires.fits c.requires.node c.take_all.ensures).0
