use Rattle.std.proofs.Common.{◌∙◌, ap, sym}
use Rattle.std.proofs.lemmas.List.Elements.{recursion_from_All}
use Rattle.offer_model.specs.Validity.{IsInRange}
use Rattle.offer_model.specs.LeafBounds.{shelf_space}
use Rattle.leaf_bounds.proofs.SpaceLemmas.{shelf_range}
use Rattle.leaf_bounds.proofs.shelf.shelf.Goals as goal

pub returns-in-Some-clause-bound : goal.returns-in-Some-clause-bound
returns-in-Some-clause-bound c =
    shelf_range c.args.p.now.limits c.in-Some.space (recursion_from_All IsInRange c.args.p.now.limits c.limits.ensures.valid.limits.in_range)
    (sym (ap shelf_space c.limits.ensures.value) ∙ sym c.shelf_space.ensures ∙ c.in-Some.is)
