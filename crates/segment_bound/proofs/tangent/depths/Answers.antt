use Rattle.std.proofs.Common.{suc, ◌+◌, ◌*◌, ◌^◌, ◌≤◌, arith}
use Rattle.segment_bound.specs.Kept.{sums_at}
use Rattle.segment_bound.specs.Slopes.{slope_at}
use Rattle.segment_bound.proofs.LinearLemmas.{sum_next}
use Rattle.segment_bound.proofs.SlopeLemmas.{depths_most, depth_is}
use Rattle.segment_bound.proofs.tangent.depths.Goals as goal

pub overflow_add-total : goal.overflow_add-total
overflow_add-total c =
    let inside = c.loop-k-test.true in
    let m = depths_most c.args.sums.now c.args.slopes.now (suc c.loop-k.k) c.requires.small c.requires.parts (omega arith) in
    let e = depth_is c.from-parts.result c.from.result (slope_at c.args.slopes.now c.loop-k.k).scale (slope_at c.args.slopes.now c.loop-k.k).units (sums_at c.args.sums.now c.loop-k.k).weight c.from-parts.ensures c.from.ensures in
    let so_far = c.loop-k.invariant in
    let t : c.loop-k.total + c.from-parts.result * c.from.result ≤ 2 ^ 60 * 10 ^ 18 = omega (arith, m, e, so_far) in
    grind (arith, t)

pub loop-k-preserved : goal.loop-k-preserved
loop-k-preserved c = sum_next c.loop-k.k (λ k. (slope_at c.args.slopes.now k).scale * ((slope_at c.args.slopes.now k).units * (sums_at c.args.sums.now k).weight)) c.loop-k.total (c.from-parts.result * c.from.result) c.loop-k.invariant
    (depth_is c.from-parts.result c.from.result (slope_at c.args.slopes.now c.loop-k.k).scale (slope_at c.args.slopes.now c.loop-k.k).units (sums_at c.args.sums.now c.loop-k.k).weight c.from-parts.ensures c.from.ensures)
