use Rattle.std.proofs.Common.{rules, subst, sym, ◌≡◌, ◌≢◌, [], ℕ, List, length}
use Rattle.std.specs.Prelude.{ℤ}
use Rattle.std.specs.List.{All}
use Rattle.std.proofs.lemmas.Int.{to_z-of_z}
use mir.Val.{SFits}
use mir.Syntax.{w128}
use Rattle.offer_model.specs.declared.node.Mark.{Mark}
use Rattle.tree_search.specs.Turns.{Turn}
use Rattle.tree_search.specs.Worlds.{WorkerData}
use Rattle.tree_search.proofs.WorldLemmas.{sound_products, turned_by}
use Rattle.tree_search.proofs.worker.Worker.work.Goals as goal

pub returns-then-not-idle-clause-turned : goal.returns-then-not-idle-clause-turned
returns-then-not-idle-clause-turned g c =
    let u = c.self.inside in
    let n : ℕ = (g.T.Goal.rules c.args.goal.now).products in
    let some : u.walker.stack ≢ [] = search rules in
    let long : All (λ (m : List Mark). length m ≡ n) u.walker.stack =
    subst (λ (x : WorkerData). All (λ (m : List Mark). length m ≡ n) x.stack) (sym c.self.view_is) c.requires.products.nodes in
    let fit : SFits w128 u.seen = search rules in
    λ _. turned_by (g.T.Goal.rules c.args.goal.now) u.walker c.work.new.self u.seen u.told c.args.self.now c.self.view_is (sound_products n u.walker c.if-not-idle.ensures.sound some long)
    (subst (λ (z : ℤ). Turn (g.T.Goal.rules c.args.goal.now) z u.walker c.work.new.self) (to_z-of_z w128 u.seen fit) c.work.ensures.turn)
