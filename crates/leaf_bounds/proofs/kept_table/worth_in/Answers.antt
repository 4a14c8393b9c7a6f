use Rattle.std.proofs.Common.{◌≡◌, ◌+◌, ◌∙◌, ap, cond, length, rules, arith}
use Rattle.std.specs.Prelude.{pos}
use mir.Val.{SFits, to_z}
use mir.Syntax.{w128}
use Rattle.std.proofs.lemmas.Int.{to_z-of_z}
use Rattle.offer_model.specs.Nodes.{mark_at, is_in}
use Rattle.linear_step.specs.Weights.{weight_at, prices_of}
use Rattle.leaf_bounds.proofs.KeptLemmas.{worth_small, worth_more, worth_at}
use Rattle.leaf_bounds.proofs.kept_table.worth_in.Goals as goal

pub plus-sum-requires : goal.plus-sum-requires
plus-sum-requires c =
    let fits : SFits w128 c.price_if_in.result = search rules in
    let price = to_z-of_z w128 c.price_if_in.result fits in
    let fits-get : SFits w128 c.get.result = search rules in
    let here : c.price_if_in.result ≡ cond (is_in (mark_at c.args.node.now c.loop-i.i)) (weight_at c.args.weights.now c.loop-i.i) (pos 0)
    = c.price_if_in.ensures.value ∙ worth_at _ _ _ _ _ c.mark.ensures (to_z-of_z w128 c.get.result fits-get) c.get.ensures in
    let sum = worth_more c.args.node.now (prices_of c.args.weights.now) c.loop-i.i (to_z w128 c.loop-i.sum-bits) c.price_if_in.result c.loop-i.invariant here in
    rw (price, sum) (worth_small c.args.p.now c.args.node.now c.args.weights.now (c.loop-i.i + 1) c.requires.weights c.products.ensures.valid.few
    (omega (arith, c.requires.node, ap length c.products.ensures.value)))

pub loop-i-preserved : goal.loop-i-preserved
loop-i-preserved c =
    let fits-sum : SFits w128 c.plus-sum.result = search rules in
    let out = to_z-of_z w128 c.plus-sum.result fits-sum in
    let fits : SFits w128 c.price_if_in.result = search rules in
    let price = to_z-of_z w128 c.price_if_in.result fits in
    let fits-get : SFits w128 c.get.result = search rules in
    let here : c.price_if_in.result ≡ cond (is_in (mark_at c.args.node.now c.loop-i.i)) (weight_at c.args.weights.now c.loop-i.i) (pos 0)
    = c.price_if_in.ensures.value ∙ worth_at _ _ _ _ _ c.mark.ensures (to_z-of_z w128 c.get.result fits-get) c.get.ensures in
    rw (out, c.plus-sum.ensures, price) (worth_more c.args.node.now (prices_of c.args.weights.now) c.loop-i.i (to_z w128 c.loop-i.sum-bits) c.price_if_in.result
    c.loop-i.invariant here)
