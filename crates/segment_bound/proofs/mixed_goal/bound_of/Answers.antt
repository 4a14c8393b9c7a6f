use Rattle.std.proofs.Common.{arith}
use Rattle.std.proofs.lemmas.Int.{ints}
use Rattle.segment_bound.proofs.GreatestLemmas.{values_sum, greatest_sum-most}
use Rattle.segment_bound.proofs.mixed_goal.bound_of.Goals as goal

pub sum_of-requires : goal.sum_of-requires
sum_of-requires c =
    let s = values_sum c.args.p.now c.args.node.now c.bounds.new.out c.bounds.ensures.values in
    let m = greatest_sum-most c.args.p.now c.args.node.now c.requires.fits.valid in
    omega (arith, s, m)

pub returns-clause-bound : goal.returns-clause-bound
returns-clause-bound c =
    let s = values_sum c.args.p.now c.args.node.now c.bounds.new.out c.bounds.ensures.values in
    let m = greatest_sum-most c.args.p.now c.args.node.now c.requires.fits.valid in
    omega (arith, ints, s, m, c.sum_of.ensures)
