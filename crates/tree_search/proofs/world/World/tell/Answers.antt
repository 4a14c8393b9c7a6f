use Rattle.std.proofs.Common.{ap, rules}
use Rattle.tree_search.specs.Worlds.{WorldData}
use Rattle.tree_search.proofs.WorldLemmas.{element_is}
use Rattle.tree_search.proofs.world.World.tell.Goals as goal

pub tell-requires : goal.tell-requires
tell-requires g c = record {
  products = element_is _ c.args.self.now c.self.inside.workers.items c.args.worker _ c.requires.world (ap (λ (s : WorldData). s.workers) c.self.view_is) (search rules)
      c.index_mut.ensures.value;
}
