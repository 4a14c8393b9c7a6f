use Rattle.std.proofs.Common.{◌≡◌, ◌<◌, cond, length, ap, rules, arith}
use Rattle.std.specs.Prelude.{pos}
use Rattle.std.proofs.lemmas.Int.{to_z-of_z}
use mir.Val.{SFits, to_z}
use mir.Syntax.{w128}
use Rattle.offer_model.specs.Assortments.{offers}
use Rattle.offer_model.specs.Problems.{product_count}
use Rattle.linear_weights.specs.Weights.{weight_at}
use Rattle.linear_weights.proofs.WeightLemmas.{sum_at, added_is, worth_fits}
use Rattle.linear_weights.proofs.weights.Weights.worth.Goals as goal

pub plus-sum-requires : goal.plus-sum-requires
plus-sum-requires c =
    let fits-get : SFits w128 c.get.result = search rules in
    let fits-added : SFits w128 c.added.result = search rules in
    let here : c.added.result ≡ cond (offers c.args.x.now c.loop-i.i) (weight_at c.args.self.now c.loop-i.i) (pos 0)
    = added_is _ _ _ _ _ _ c.added.ensures c.offers.ensures (to_z-of_z w128 c.get.result fits-get) c.get.ensures in
    let few = c.products.ensures.valid.few in
    let inside : c.loop-i.i < product_count c.args.p.now = omega (arith, c.len-i-end.ensures, ap length c.products.ensures.value) in
    rw (to_z-of_z w128 c.added.result fits-added)
    (worth_fits (product_count c.args.p.now) c.loop-i.i (offers c.args.x.now) (weight_at c.args.self.now) c.args.self.now.constant
    (to_z w128 c.loop-i.sum-bits) c.added.result (omega arith) inside c.requires.weights.small c.requires.weights.constant c.loop-i.invariant here)

pub loop-i-preserved : goal.loop-i-preserved
loop-i-preserved c =
    let fits-get : SFits w128 c.get.result = search rules in
    let fits-added : SFits w128 c.added.result = search rules in
    let fits-plus : SFits w128 c.plus-sum.result = search rules in
    let here : c.added.result ≡ cond (offers c.args.x.now c.loop-i.i) (weight_at c.args.self.now c.loop-i.i) (pos 0)
    = added_is _ _ _ _ _ _ c.added.ensures c.offers.ensures (to_z-of_z w128 c.get.result fits-get) c.get.ensures in
    rw (to_z-of_z w128 c.plus-sum.result fits-plus, c.plus-sum.ensures, to_z-of_z w128 c.added.result fits-added)
    (sum_at c.loop-i.i (λ i. cond (offers c.args.x.now i) (weight_at c.args.self.now i) (pos 0)) c.args.self.now.constant
    (to_z w128 c.loop-i.sum-bits) c.added.result c.loop-i.invariant here)
