use Rattle.std.proofs.Common.{rules}
use Rattle.rank_step.proofs.PlaceLemmas.{places_all}
use Rattle.rank_step.proofs.places.CapPlaces.of.Goals as goal

pub returns : goal.returns
returns c = places_all c.args.p.now c.loop-k.at c.loop-k.k (search rules) c.requires c.loop-k.invariant
