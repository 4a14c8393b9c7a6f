use Rattle.tree_search.proofs.StackLemmas.{sound_of}
use Rattle.tree_search.proofs.walker.Walker.products.Goals as goal

pub returns-clause-sound : goal.returns-clause-sound
returns-clause-sound c =
    sound_of _ c.self.inside.stack.items c.self.inside.found c.self.inside.best _ c.self.view_is c.self.invariant.0 c.self.invariant.5 c.self.invariant.7
