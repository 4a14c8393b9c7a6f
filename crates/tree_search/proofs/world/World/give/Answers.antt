use Rattle.std.proofs.Common.{ap, subst, sym, ◌∙◌, ℕ}
use Rattle.std.specs.List.{All}
use Rattle.tree_search.specs.Worlds.{WorldData, IsWorkerOf}
use Rattle.tree_search.proofs.world.World.give.Goals as goal

pub give_between-requires-clause-products : goal.give_between-requires-clause-products
give_between-requires-clause-products g c =
    subst (λ (m : ℕ). All (IsWorkerOf m) c.as_mut_slice.result.now) (sym c.products-n.ensures)
    (subst (All (IsWorkerOf (g.T.Goal.rules c.args.goal.now).products)) (sym (ap (λ (s : WorldData). s.workers) c.self.view_is) ∙ sym c.as_mut_slice.ensures.value) c.requires.world.workers)
