use Rattle.std.proofs.Common.{◌≡◌, ◌+◌, rules, arith, length, ap, ◌∙◌}
use Rattle.std.proofs.lemmas.Int.{to_z-of_z}
use mir.Val.{SFits, to_z}
use mir.Syntax.{w128}
use Rattle.offer_model.specs.Nodes.{mark_at}
use Rattle.offer_model.specs.Prices.{prices_above, most_of}
use Rattle.offer_model.specs.Problems.{segment_at}
use Rattle.linear_weights.proofs.WeightLemmas.{sum_at, most_at}
use Rattle.leaf_bounds.proofs.SegmentLemmas.{above_fits}
use Rattle.leaf_bounds.proofs.segments.greatest_above.Goals as goal

pub plus-sum-requires : goal.plus-sum-requires
plus-sum-requires c =
    let at = prices_above c.args.p.now (segment_at c.args.p.now c.args.g) c.args.units in
    let fits-most : SFits w128 c.most_of.result = search rules in
    let most = to_z-of_z w128 c.most_of.result fits-most in
    let fits-price : SFits w128 c.price_above-price.result = search rules in
    let here : c.most_of.result ≡ most_of (mark_at c.args.node.now c.loop-i.i) (at.price c.loop-i.i)
    = c.most_of.ensures ∙ most_at _ _ _ _ _ c.mark.ensures (to_z-of_z w128 c.price_above-price.result fits-price) c.price_above-price.ensures.value in
    let sum = sum_at c.loop-i.i (λ i. most_of (mark_at c.args.node.now i) (at.price i)) at.constant (to_z w128 c.loop-i.sum-bits) c.most_of.result c.loop-i.invariant here in
    let count = ap length c.products.ensures.value in
    rw (most, sum) (above_fits c.args.p.now c.args.node.now c.args.g c.args.units c.products.ensures.valid c.requires.segment c.requires.units (c.loop-i.i + 1)
    (omega (arith, c.len-i-end.ensures, count)))

pub loop-i-preserved : goal.loop-i-preserved
loop-i-preserved c =
    let at = prices_above c.args.p.now (segment_at c.args.p.now c.args.g) c.args.units in
    let fits : SFits w128 c.plus-sum.result = search rules in
    let out = to_z-of_z w128 c.plus-sum.result fits in
    let fits-most : SFits w128 c.most_of.result = search rules in
    let most = to_z-of_z w128 c.most_of.result fits-most in
    let fits-price : SFits w128 c.price_above-price.result = search rules in
    let here : c.most_of.result ≡ most_of (mark_at c.args.node.now c.loop-i.i) (at.price c.loop-i.i)
    = c.most_of.ensures ∙ most_at _ _ _ _ _ c.mark.ensures (to_z-of_z w128 c.price_above-price.result fits-price) c.price_above-price.ensures.value in
    rw (out, c.plus-sum.ensures, most)
    (sum_at c.loop-i.i (λ i. most_of (mark_at c.args.node.now i) (at.price i)) at.constant (to_z w128 c.loop-i.sum-bits) c.most_of.result c.loop-i.invariant here)
