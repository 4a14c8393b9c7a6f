use Rattle.std.proofs.Common.{rules, subst, sym, ◌≡◌, ◌≢◌, [], List, length}
use Rattle.std.specs.List.{All}
use Rattle.offer_model.specs.declared.node.Mark.{Mark}
use Rattle.tree_search.specs.Worlds.{WorkerData}
use Rattle.tree_search.proofs.WorldLemmas.{sound_products, gives_by}
use Rattle.tree_search.proofs.worker.give.Goals as goal

pub returns-clause-given : goal.returns-clause-given
returns-clause-given c =
    let giver = c.giver.inside in
    let taker = c.taker.inside in
    let some : giver.walker.stack ≢ [] = search rules in
    let none : taker.walker.stack ≡ [] = search rules in
    let long : All (λ (m : List Mark). length m ≡ c.args.n) giver.walker.stack =
    subst (λ (u : WorkerData). All (λ (m : List Mark). length m ≡ c.args.n) u.stack) (sym c.giver.view_is) c.requires.products.0.nodes in
    gives_by c.args.n giver.walker taker.walker c.fit.new.walker c.give.new.self c.give.new.other giver.seen giver.told taker.seen taker.told c.args.giver.now c.args.taker.now
    c.giver.view_is c.taker.view_is (sound_products c.args.n giver.walker c.if-idle.ensures.sound some long) c.in_ok-fit.ensures.fits some none c.give.ensures.given
