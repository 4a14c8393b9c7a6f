use Rattle.std.proofs.Common.{◌≤◌, ◌^◌, min, arith}
use Rattle.std.proofs.lemmas.Int.{ints}
use Rattle.segment_bound.specs.MixedGoals.{greatest_sum}
use Rattle.segment_bound.specs.Tangents.{tangent_bound}
use Rattle.segment_bound.proofs.GreatestLemmas.{greatest_sum-most}
use Rattle.segment_bound.proofs.tangent_goal.lesser.Goals as goal

pub returns-clause-bound : goal.returns-clause-bound
returns-clause-bound c =
    let m = greatest_sum-most c.args.p.now c.args.node.now c.requires.fits.valid in
    let e = c.lesser.ensures.bound in
    let small : min (greatest_sum c.args.p.now c.args.node.now) (tangent_bound c.args.p.now c.args.node.now) ≤ 10 ^ 18 = omega (arith, m) in
    omega (arith, ints, e, small)

pub overflow_cast-result : goal.overflow_cast-result
overflow_cast-result c =
    let m = greatest_sum-most c.args.p.now c.args.node.now c.requires.fits.valid in
    let e = c.lesser.ensures.bound in
    let t : c.lesser.result ≤ 10 ^ 18 = omega (arith, m, e) in
    grind (arith, ints, t)
