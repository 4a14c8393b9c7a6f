use Rattle.std.proofs.Common.{◌≢◌, IsTrue, ◌↔◌, refl, sym, subst, arith}
use Rattle.offer_model.specs.Assortments.{offers}
use Rattle.offer_model.specs.Nodes.{fill_of, ComesAfter}
use Rattle.limit_rules.proofs.OrderLemmas.{ComesAfter-by_product, ComesAfter-from_alike}
use Rattle.limit_rules.proofs.order.comes_after.Goals as goal

pub returns-then-has-offers : goal.returns-then-has-offers
returns-then-has-offers c =
    let apart : offers (fill_of c.args.node.now) c.loop-i.i ≢ offers c.args.x.now c.loop-i.i = grind (arith, c.if-has-offers.true, c.has.ensures, c.offers.ensures) in
    subst (λ b. IsTrue b ↔ ComesAfter c.args.node.now c.args.x.now) (sym c.has-then-has-offers.ensures)
    (ComesAfter-by_product c.args.node.now c.args.x.now c.loop-i.i (omega (arith, c.requires)) c.requires c.loop-i.invariant apart)

pub returns : goal.returns
returns c = (λ t. ComesAfter-from_alike c.args.node.now c.args.x.now c.requires (λ k l. c.loop-i.invariant k (omega arith)), λ h. refl)
