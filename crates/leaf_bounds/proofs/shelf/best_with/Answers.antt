use Rattle.std.proofs.Common.{◌≡◌, ◌<◌, ◌-◌, ◌∙◌, ap, sym, arith, rules, length, true, None}
use mir.Val.{SFits}
use mir.Syntax.{w128}
use Rattle.std.proofs.lemmas.Int.{to_z-of_z}
use Rattle.offer_model.specs.Problems.{product_at, no_product}
use Rattle.offer_model.specs.LeafBounds.{greater_of, leaving_out, offering, raised_by}
use Rattle.linear_step.specs.Weights.{weight_at}
use Rattle.leaf_bounds.proofs.ListLemmas.{item_is}
use Rattle.multiplier_bound.proofs.PriceLemmas.{get_or_any}
use Rattle.leaf_bounds.proofs.SpaceLemmas.{best_small, best_fits, best_over}
use Rattle.leaf_bounds.proofs.shelf.best_with.Goals as goal
use Rattle.leaf_bounds.proofs.shelf.best_with.Goals.{then-space-room, else-space-room}

pub raised_by-offered-requires-clause-sum : goal.raised_by-offered-requires-clause-sum
raised_by-offered-requires-clause-sum c =
    let space = c.get.result.now.space in
    let few = c.products.ensures.valid.few in
    let inside : c.args.room - space < length c.args.row.now.items = omega (arith, c.requires.room) in
    best_small c.args.p.now c.args.node.now (weight_at c.args.weights.now) c.args.i (c.args.room - space) c.index.result.now (omega (arith, c.requires.product)) (λ i l. c.requires.weights.small i (omega (arith, c.requires.product)))
    (c.index.ensures ∙ get_or_any c.args.row.now.items (c.args.room - space) None c.index.result.now inside ∙ c.requires.row (c.args.room - space) (omega arith))

pub returns : goal.returns
returns c =
    let space = c.get.result.now.space in
    let product = item_is c.products.result.now.items c.args.p.now.products c.args.i c.get.result.now no_product c.products.ensures.value c.get.ensures in
    let space_is : space ≡ (product_at c.args.p.now c.args.i).space = sym (ap (λ z. z.space) product) in
    let without = c.index-2.ensures ∙ get_or_any c.args.row.now.items c.args.room None c.index-2.result.now c.requires.room ∙ c.requires.row c.args.room (omega arith) in
    elim c.if-space-room.branch [
      | then-space-room w ↦
          let inside : c.args.room - space < length c.args.row.now.items = omega (arith, c.requires.room) in
          let before = w.index.ensures ∙ get_or_any c.args.row.now.items (c.args.room - space) None w.index.result.now inside ∙ c.requires.row (c.args.room - space) (omega arith) in
          let fits : SFits w128 w.get-then-space-room.result = search rules in
          let raised : w.raised_by-offered.result ≡ raised_by w.get-then-space-room.result w.index.result.now = w.raised_by-offered.ensures ∙ ap (λ z. raised_by z w.index.result.now) (to_z-of_z w128 w.get-then-space-room.result fits) in
          let shape : c.greater_of.result ≡ greater_of (leaving_out c.mark-mark.result c.index-2.result.now) (offering c.mark-mark.result true (raised_by w.get-then-space-room.result w.index.result.now)) = cc (raised, w.offered-is) in
          shape ∙ best_fits c.args.p.now c.args.node.now (weight_at c.args.weights.now) c.args.i c.args.room space c.mark-mark.result w.get-then-space-room.result c.index-2.result.now w.index.result.now
          c.mark-mark.ensures w.get-then-space-room.ensures space_is w.if-space-room.true without before
      | else-space-room w ↦
          let shape : c.greater_of.result ≡ greater_of (leaving_out c.mark-mark.result c.index-2.result.now) (offering c.mark-mark.result true None) = cc (w.offered-is) in
          shape ∙ best_over c.args.p.now c.args.node.now (weight_at c.args.weights.now) c.args.i c.args.room space c.mark-mark.result c.index-2.result.now
          c.mark-mark.ensures space_is w.if-space-room.false without
    ]
