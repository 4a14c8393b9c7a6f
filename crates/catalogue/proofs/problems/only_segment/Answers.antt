use Rattle.catalogue.proofs.CatalogueProblemLemmas.{catalogue_segment}
use Rattle.catalogue.proofs.problems.only_segment.Goals as goal

pub new-requires : goal.new-requires
new-requires c =
    rw (c.in_ok-attract.ensures.attractions, c.in_ok-shadow.ensures)
    (catalogue_segment c.args.c.now c.args.model c.args.none c.attractions_of.ensures.valid c.requires.none c.requires.shadows)
