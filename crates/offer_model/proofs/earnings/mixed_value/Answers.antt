use Rattle.std.proofs.Common.{arith, ◌≤◌, length}
use Rattle.offer_model.proofs.EarningLemmas.{value_below-most}
use Rattle.offer_model.proofs.earnings.mixed_value.Goals as goal

pub returns-clause-bound : goal.returns-clause-bound
returns-clause-bound c =
    let inside : c.loop-g.g ≤ length c.args.p.now.segments = search arith in
    let small = value_below-most c.args.p.now c.loop-g.g c.args.x.now c.segments.ensures.valid inside in
    let sum = c.loop-g.invariant.sum in
    omega (arith, sum, small)
