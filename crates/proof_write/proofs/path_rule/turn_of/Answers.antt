use Rattle.std.proofs.Common.{arith}
use Rattle.proof_write.proofs.PathLemmas.{end-inside}
use Rattle.proof_write.proofs.path_rule.turn_of.Goals as goal

pub strays-requires-clause-x : goal.strays-requires-clause-x
strays-requires-clause-x c = let inside = end-inside c.args.x.now in omega (arith, c.requires.near.inside, c.if-depth-gt0.true)

pub strays-requires-clause-node : goal.strays-requires-clause-node
strays-requires-clause-node c = let inside = end-inside c.args.x.now in omega (arith, c.requires.each, c.requires.near.inside, c.if-depth-gt0.true)
