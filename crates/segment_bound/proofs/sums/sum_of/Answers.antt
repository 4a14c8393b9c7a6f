use Rattle.std.proofs.Common.{arith}
use Rattle.segment_bound.proofs.GreatestLemmas.{sum_part}
use Rattle.segment_bound.proofs.sums.sum_of.Goals as goal

pub overflow_add-total : goal.overflow_add-total
overflow_add-total c = let m = sum_part c.args.numbers.now c.loop-k.k c.loop-k.total c.loop-k-test.true c.loop-k.invariant c.requires in grind (arith, m)
