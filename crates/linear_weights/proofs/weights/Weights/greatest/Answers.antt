use Rattle.std.proofs.Common.{◌≡◌, ◌+◌, rules, arith, length, ap, ◌∙◌}
use Rattle.std.proofs.lemmas.Int.{to_z-of_z}
use mir.Val.{SFits, to_z}
use mir.Syntax.{w128}
use Rattle.offer_model.specs.Nodes.{mark_at}
use Rattle.offer_model.specs.Prices.{most_of}
use Rattle.linear_weights.specs.Weights.{weight_at}
use Rattle.linear_weights.proofs.WeightLemmas.{sum_at, most_at}
use Rattle.linear_weights.proofs.weights.Weights.greatest.Goals as goal

pub plus-sum-requires : goal.plus-sum-requires
plus-sum-requires c =
    let fits-most : SFits w128 c.most_of.result = search rules in
    let most = to_z-of_z w128 c.most_of.result fits-most in
    let fits-get : SFits w128 c.get.result = search rules in
    let here : c.most_of.result ≡ most_of (mark_at c.args.node.now c.loop-i.i) (weight_at c.args.self.now c.loop-i.i)
    = c.most_of.ensures ∙ most_at _ _ _ _ _ c.mark.ensures (to_z-of_z w128 c.get.result fits-get) c.get.ensures in
    let sum = sum_at c.loop-i.i (λ i. most_of (mark_at c.args.node.now i) (weight_at c.args.self.now i)) c.args.self.now.constant (to_z w128 c.loop-i.sum-bits) c.most_of.result c.loop-i.invariant here in
    rw (most, sum) (c.requires.sums (c.loop-i.i + 1) (omega (arith, c.len-i-end.ensures, ap length c.products.ensures.value)))

pub loop-i-preserved : goal.loop-i-preserved
loop-i-preserved c =
    let fits : SFits w128 c.plus-sum.result = search rules in
    let out = to_z-of_z w128 c.plus-sum.result fits in
    let fits-most : SFits w128 c.most_of.result = search rules in
    let most = to_z-of_z w128 c.most_of.result fits-most in
    let fits-get : SFits w128 c.get.result = search rules in
    let here : c.most_of.result ≡ most_of (mark_at c.args.node.now c.loop-i.i) (weight_at c.args.self.now c.loop-i.i)
    = c.most_of.ensures ∙ most_at _ _ _ _ _ c.mark.ensures (to_z-of_z w128 c.get.result fits-get) c.get.ensures in
    rw (out, c.plus-sum.ensures, most)
    (sum_at c.loop-i.i (λ i. most_of (mark_at c.args.node.now i) (weight_at c.args.self.now i)) c.args.self.now.constant (to_z w128 c.loop-i.sum-bits) c.most_of.result c.loop-i.invariant here)
