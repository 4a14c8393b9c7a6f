use Rattle.std.proofs.Common.{ap, rules, refl}
use Rattle.tree_search.specs.Worlds.{WorldData}
use Rattle.tree_search.proofs.WorldLemmas.{element_is, worked}
use Rattle.tree_search.proofs.world.World.work.Goals as goal

pub work-requires : goal.work-requires
work-requires g c = record {
  products = element_is _ c.args.self.now c.self.inside.workers.items c.args.worker _ c.requires.world (ap (λ (s : WorldData). s.workers) c.self.view_is) (search rules)
      c.index_mut.ensures.value;
}

pub returns-then-index-len-clause-event : goal.returns-then-index-len-clause-event
returns-then-index-len-clause-event g c =
    let w = c.self.inside in
    rw (← c.self.view_is)
    (worked (g.T.Goal.rules c.args.goal.now) (record { shared = w.shared; next = w.next; tasks = w.tasks; workers = w.workers.items }) _ c.args.worker c.index_mut.result.now c.work.new.self
    (search rules) c.index_mut.ensures.value c.work.ensures.turned c.work.ensures.idle refl)
