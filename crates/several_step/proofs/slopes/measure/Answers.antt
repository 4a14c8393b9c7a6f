use Rattle.multiplier_bound.proofs.DescentLemmas.{priced_in_range, priced_named}
use Rattle.several_step.proofs.slopes.measure.Goals as goal

pub excess-over-requires-clause-named : goal.excess-over-requires-clause-named
excess-over-requires-clause-named c = priced_named c.args.p.now c.args.priced.now.items c.loop-k.k c.get.result.now c.requires.valid c.requires.priced c.get.ensures

pub excess-over-requires-clause-range : goal.excess-over-requires-clause-range
excess-over-requires-clause-range c = priced_in_range c.args.p.now c.args.priced.now.items c.loop-k.k c.get.result.now c.requires.valid c.requires.priced c.get.ensures
