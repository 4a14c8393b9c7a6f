use Rattle.catalogue.proofs.CatalogueProblemLemmas.{catalogue_problem}
use Rattle.catalogue.proofs.problems.problem_of.Goals as goal

pub new-requires : goal.new-requires
new-requires c =
    rw (c.in_ok-products.ensures.products, c.in_ok-segments.ensures, c.in_ok-limits.ensures)
    (catalogue_problem c.args.c.now c.args.model c.args.none c.args.unit c.args.segments.now c.args.limits.now.items
    c.products_of.ensures.valid c.requires.model c.requires.limits c.requires.none c.requires.unit c.requires.shadows c.requires.segments)
