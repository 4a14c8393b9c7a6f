use Rattle.std.proofs.Common.{◌∙◌, ap, Some}
use Rattle.leaf_bounds.proofs.SpaceLemmas.{shelf_here, shelf_past}
use Rattle.leaf_bounds.proofs.shelf.shelf_space.Goals as goal

pub returns-in-Shelf : goal.returns-in-Shelf
returns-in-Shelf c = shelf_here c.args.limits.now.items c.loop-k.k c.in-Shelf.space (c.get.ensures ∙ ap (λ z. Some z) c.in-Shelf.is) c.loop-k.invariant

pub loop-k-preserved : goal.loop-k-preserved
loop-k-preserved c = shelf_past c.args.limits.now.items c.loop-k.k c.get.result.now c.get.ensures c.in_default.not-Shelf c.loop-k.invariant
