use Rattle.std.proofs.Common.{arith}
use Rattle.segment_bound.specs.Slopes.{slope_at}
use Rattle.segment_bound.proofs.SlopeLemmas.{share_small, product_small}
use Rattle.segment_bound.proofs.tangent.is_dear.Goals as goal

pub overflow_mul-slope : goal.overflow_mul-slope
overflow_mul-slope c =
    let share = share_small c.args.slopes.now c.loop-k.k c.requires.small c.loop-k-test.true in
    let t = product_small (slope_at c.args.slopes.now c.loop-k.k).share c.args.margin share c.requires.margin in
    grind (arith, t)
