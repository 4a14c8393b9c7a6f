use Rattle.std.proofs.Common.{◌≡◌, suc, ◌+◌, ◌*◌, ◌^◌, ◌≤◌, arith}
use Rattle.std.proofs.Math.Nat.{mul-le-mul}
use Rattle.segment_bound.specs.Kept.{sums_at}
use Rattle.segment_bound.specs.Tangents.{parts}
use Rattle.segment_bound.specs.Slopes.{slope_at, heights_of}
use Rattle.segment_bound.proofs.LinearLemmas.{sum_next}
use Rattle.segment_bound.proofs.SlopeLemmas.{heights_most, height_is, units_small, share_small, product_is}
use Rattle.segment_bound.proofs.tangent.heights.Goals.{After-from-in-loop-k-3}
use Rattle.segment_bound.proofs.tangent.heights.Goals as goal

pub overflow_mul-gain : goal.overflow_mul-gain
overflow_mul-gain c =
    let share = share_small c.args.slopes.now c.loop-k.k c.requires.small c.loop-k-test.true in
    let gain = c.requires.parts.small c.loop-k.k c.loop-k-test.true in
    let e = c.from.ensures in
    let t : c.from.result * (sums_at c.args.sums.now c.loop-k.k).gain ≤ 10 ^ 9 * (256 * 10 ^ 18) = mul-le-mul {n₁ = c.from.result} {m₁ = (sums_at c.args.sums.now c.loop-k.k).gain} {n₂ = 10 ^ 9} {m₂ = 256 * 10 ^ 18} (omega (arith, share, e)) gain in
    grind (arith, t)

pub overflow_mul-own : goal.overflow_mul-own
overflow_mul-own c =
    let units = units_small c.args.slopes.now c.loop-k.k c.requires.small c.loop-k-test.true in
    let e = product_is c.from-in-loop-k.result c.from-in-loop-k-2.result parts (slope_at c.args.slopes.now c.loop-k.k).units c.from-in-loop-k.ensures c.from-in-loop-k-2.ensures in
    let t : c.from-in-loop-k.result * c.from-in-loop-k-2.result ≤ 2 ^ 60 * 10 ^ 18 = omega (arith, units, e) in
    grind (arith, t)

-- What the step adds, and that it fits.
added : (c : After-from-in-loop-k-3) → c.from-in-loop-k.result * c.from-in-loop-k-2.result + c.from-in-loop-k-3.result * (c.from.result * (sums_at c.args.sums.now c.loop-k.k).gain)
    ≡ parts * (slope_at c.args.slopes.now c.loop-k.k).units + (slope_at c.args.slopes.now c.loop-k.k).scale * ((slope_at c.args.slopes.now c.loop-k.k).share * (sums_at c.args.sums.now c.loop-k.k).gain)
added c = height_is c.from-in-loop-k.result c.from-in-loop-k-2.result c.from-in-loop-k-3.result c.from.result parts (slope_at c.args.slopes.now c.loop-k.k).units (slope_at c.args.slopes.now c.loop-k.k).scale (slope_at c.args.slopes.now c.loop-k.k).share (sums_at c.args.sums.now c.loop-k.k).gain
    c.from-in-loop-k.ensures c.from-in-loop-k-2.ensures c.from-in-loop-k-3.ensures c.from.ensures

fits : (c : After-from-in-loop-k-3) → c.loop-k.total + (c.from-in-loop-k.result * c.from-in-loop-k-2.result + c.from-in-loop-k-3.result * (c.from.result * (sums_at c.args.sums.now c.loop-k.k).gain)) ≤ 2 ^ 61 * 10 ^ 18
fits c =
    let inside = c.loop-k-test.true in
    let m = heights_most c.args.sums.now c.args.slopes.now (suc c.loop-k.k) c.requires.small c.requires.parts (omega arith) in
    let e = added c in
    let so_far = c.loop-k.invariant in
    omega (arith, m, e, so_far)

pub overflow_mul-total : goal.overflow_mul-total
overflow_mul-total c = let t = fits (goal.at.overflow_mul-total c).After-from-in-loop-k-3 in grind (arith, t)

pub overflow_add-total : goal.overflow_add-total
overflow_add-total c = let t = fits (goal.at.overflow_add-total c).After-from-in-loop-k-3 in grind (arith, t)

pub overflow_add-total-in-loop-k : goal.overflow_add-total-in-loop-k
overflow_add-total-in-loop-k c = let t = fits (goal.at.overflow_add-total-in-loop-k c).After-from-in-loop-k-3 in grind (arith, t)

pub loop-k-preserved : goal.loop-k-preserved
loop-k-preserved c = sum_next c.loop-k.k (λ k. parts * (slope_at c.args.slopes.now k).units + (slope_at c.args.slopes.now k).scale * ((slope_at c.args.slopes.now k).share * (sums_at c.args.sums.now k).gain)) c.loop-k.total
    (c.from-in-loop-k.result * c.from-in-loop-k-2.result + c.from-in-loop-k-3.result * (c.from.result * (sums_at c.args.sums.now c.loop-k.k).gain)) c.loop-k.invariant (added (goal.at.loop-k-preserved c).After-from-in-loop-k-3)

pub returns-clause-bound : goal.returns-clause-bound
returns-clause-bound c =
    let m = heights_most c.args.sums.now c.args.slopes.now c.loop-k.k c.requires.small c.requires.parts (omega arith) in
    let e = c.requires.each in
    let v : c.loop-k.total ≡ heights_of c.args.sums.now c.args.slopes.now c.loop-k.k = c.loop-k.invariant in
    omega (arith, m, v)
