use Rattle.rank_step.specs.Caps.{ArePlacesBelow}
use Rattle.rank_step.proofs.places.CapPlaces.of.Given as goal

abbrev pub invariant-loop-k : goal.invariant-loop-k
invariant-loop-k l = ArePlacesBelow l.p l.k l.at
