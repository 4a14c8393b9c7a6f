use Rattle.std.proofs.Common.{arith}
use Rattle.chain_write.proofs.LineLemmas.{bounds_are_line}
use Rattle.chain_write.proofs.lines.bounds_line.Goals as goal

pub returns-clause-grammar : goal.returns-clause-grammar
returns-clause-grammar c = bounds_are_line c.args.lo c.args.up (omega (arith, c.ranges.lo.fits)) (omega (arith, c.ranges.up.fits))
