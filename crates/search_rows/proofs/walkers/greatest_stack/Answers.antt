use Rattle.std.proofs.Common.{ap, sym, ◌≡◌, ◌∙◌}
use Rattle.tree_search.proofs.SizeLemmas.{turn_smaller}
use Rattle.tree_search.proofs.RunLemmas.{turn_products}
use Rattle.search_rows.proofs.walkers.greatest_stack.Goals as goal

pub loop-walker-smaller : goal.loop-walker-smaller
loop-walker-smaller g c =
    let i = c.loop-walker.invariant in
    let p : c.loop-walker.walker.products ≡ (g.T.Goal.rules c.loop-walker.goal).products =
    i.products ∙ (c.requires.goal ∙ ap (λ x. (g.T.Goal.rules x).products) (sym i.same)) in
    turn_smaller (g.T.Goal.rules c.loop-walker.goal) (g.met.T.Goal.lawful c.loop-walker.goal) _ _ _ c.work.ensures.turn p c.work.ensures.was_sound

pub loop-walker-preserved : goal.loop-walker-preserved
loop-walker-preserved g c = record {
  same = c.work.ensures.same ∙ c.loop-walker.invariant.same;
  products = turn_products (g.T.Goal.rules c.loop-walker.goal) _ _ _ c.work.ensures.turn ∙ c.loop-walker.invariant.products;
}
