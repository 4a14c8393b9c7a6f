use Rattle.linear_step.specs.Weights.{prices_of}
use Rattle.rank_step.proofs.FreeLemmas.{free_closes}
use Rattle.rank_step.proofs.free.FreeStepCloser.close.Goals as goal

pub returns-clause-answer : goal.returns-clause-answer
returns-clause-answer c = free_closes c.args._p.now c.args._node.now (prices_of c.args._weights.now) c.new.result c.requires.fits c.requires.node c.new.ensures
