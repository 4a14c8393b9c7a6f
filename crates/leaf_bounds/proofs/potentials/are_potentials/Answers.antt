use Rattle.std.proofs.Common.{below_more}
use Rattle.linear_step.specs.Weights.{weight_at}
use Rattle.leaf_bounds.specs.Potentials.{IsPotential}
use Rattle.leaf_bounds.proofs.potentials.are_potentials.Goals as goal

pub loop-i-preserved : goal.loop-i-preserved
loop-i-preserved c = below_more (IsPotential c.args.p.now (weight_at c.args.weights.now) c.args.usable.now c.args.numbers.now.items) c.loop-i.i c.loop-i.invariant (c.is_potential.ensures.0 c.if-not-is_potential.false)
