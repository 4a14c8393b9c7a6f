use Rattle.std.proofs.Common.{◌≡◌, rules, subst}
use Rattle.std.specs.Prelude.{length}
use Rattle.offer_model.specs.Problems.{product_count}
use Rattle.offer_model.specs.LeafBounds.{ladder_of}
use Rattle.leaf_bounds.specs.LadderLists.{Collects}
use Rattle.leaf_bounds.proofs.LadderListLemmas.{same_stands, new_stands}
use Rattle.leaf_bounds.proofs.ladders.place_of.Goals as goal

pub returns-in-Some-clause-place : goal.returns-in-Some-clause-place
returns-in-Some-clause-place c = same_stands c.args.p.now c.args.lists.now.items c.args.i c.in-Some.j _ (search rules)
    (c.requires.before.held c.in-Some.j (search rules))

pub returns-clause-place : goal.returns-clause-place
returns-clause-place c =
    let ladder : c.ladder_of.result ≡ ladder_of c.args.p.now c.args.i = c.ladder_of.ensures in
    let list = c.in_ok-products.products.items in
    let collected : Collects c.args.p.now (ladder_of c.args.p.now c.args.i) (product_count c.args.p.now) list
    = subst (λ l. Collects c.args.p.now l (product_count c.args.p.now) list) ladder c.in_ok-products.ensures in
    let place : c.len-place.result ≡ length c.args.lists.now.items = search rules in
    rw (c.in_ok-push.ensures.items, place) (new_stands c.args.p.now c.args.lists.now.items c.args.i list collected)
