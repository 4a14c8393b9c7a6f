use Rattle.std.proofs.Common.{◌≡◌, ◌+◌, ◌∙◌, ap, length, rules, arith}
use mir.Val.{SFits, to_z}
use mir.Syntax.{w128}
use Rattle.std.proofs.lemmas.Int.{to_z-of_z}
use Rattle.offer_model.specs.Nodes.{settled_mark}
use Rattle.offer_model.specs.LeafBounds.{is_limited, ladder_of, most_beside}
use Rattle.linear_step.specs.Weights.{weight_at, prices_of}
use Rattle.leaf_bounds.specs.Potentials.{worth_beside}
use Rattle.leaf_bounds.proofs.LadderLemmas.{beside_small, beside_more, beside_at, wide_enough}
use Rattle.leaf_bounds.proofs.potentials.worth_beside.Goals as goal

pub plus-sum-requires : goal.plus-sum-requires
plus-sum-requires c =
    let fits : SFits w128 c.most_beside.result = search rules in
    let most = to_z-of_z w128 c.most_beside.result fits in
    let fits-get : SFits w128 c.get.result = search rules in
    let here : c.most_beside.result ≡ most_beside (settled_mark c.args.p.now c.args.node.now c.loop-i.i) (is_limited c.args.p.now.limits (ladder_of c.args.p.now c.loop-i.i)) (weight_at c.args.weights.now c.loop-i.i)
    = c.most_beside.ensures.value ∙ beside_at _ _ _ _ _ _ _ c.mark.ensures (c.offers.ensures ∙ c.requires.limited.is c.loop-i.i (omega (arith, c.requires.node, ap length c.products.ensures.value))) (to_z-of_z w128 c.get.result fits-get) c.get.ensures in
    let sum = beside_more c.args.p.now c.args.node.now (prices_of c.args.weights.now) c.loop-i.i (to_z w128 c.loop-i.sum-bits) c.most_beside.result c.loop-i.invariant here in
    let small = beside_small c.args.p.now c.args.node.now c.args.weights.now (c.loop-i.i + 1) c.requires.weights c.products.ensures.valid.few (omega (arith, c.requires.node, ap length c.products.ensures.value)) in
    rw (most, sum) (wide_enough (worth_beside c.args.p.now c.args.node.now (prices_of c.args.weights.now) (c.loop-i.i + 1)) small)

pub loop-i-preserved : goal.loop-i-preserved
loop-i-preserved c =
    let fits-sum : SFits w128 c.plus-sum.result = search rules in
    let out = to_z-of_z w128 c.plus-sum.result fits-sum in
    let fits : SFits w128 c.most_beside.result = search rules in
    let most = to_z-of_z w128 c.most_beside.result fits in
    let fits-get : SFits w128 c.get.result = search rules in
    let here : c.most_beside.result ≡ most_beside (settled_mark c.args.p.now c.args.node.now c.loop-i.i) (is_limited c.args.p.now.limits (ladder_of c.args.p.now c.loop-i.i)) (weight_at c.args.weights.now c.loop-i.i)
    = c.most_beside.ensures.value ∙ beside_at _ _ _ _ _ _ _ c.mark.ensures (c.offers.ensures ∙ c.requires.limited.is c.loop-i.i (omega (arith, c.requires.node, ap length c.products.ensures.value))) (to_z-of_z w128 c.get.result fits-get) c.get.ensures in
    rw (out, c.plus-sum.ensures, most) (beside_more c.args.p.now c.args.node.now (prices_of c.args.weights.now) c.loop-i.i (to_z w128 c.loop-i.sum-bits) c.most_beside.result c.loop-i.invariant here)

pub returns-clause-small : goal.returns-clause-small
returns-clause-small c = rw c.loop-i.invariant (beside_small c.args.p.now c.args.node.now c.args.weights.now c.loop-i.i c.requires.weights c.products.ensures.valid.few (omega (arith, c.requires.node, ap length c.products.ensures.value)))
