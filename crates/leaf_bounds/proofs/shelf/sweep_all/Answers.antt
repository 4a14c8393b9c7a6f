use Rattle.std.proofs.Common.{arith, ap, length}
use Rattle.linear_step.specs.Weights.{weight_at}
use Rattle.leaf_bounds.specs.Shelves.{cell}
use Rattle.leaf_bounds.proofs.SpaceLemmas.{best_small}
use Rattle.leaf_bounds.proofs.shelf.sweep_all.Goals as goal

pub returns-clause-small : goal.returns-clause-small
returns-clause-small c = λ room l. best_small c.args.p.now c.args.node.now (weight_at c.args.weights.now) c.loop-i.i room (cell c.loop-i.row.items room)
    (omega (arith, c.products.ensures.valid.few, ap length c.products.ensures.value)) (λ i h. c.requires.weights.small i (omega (arith, ap length c.products.ensures.value))) (c.loop-i.invariant.row room l)
