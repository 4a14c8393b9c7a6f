use Rattle.std.proofs.Common.{ℕ, ◌≡◌, ◌+◌, rules, arith, length, ap, ◌∙◌}
use Rattle.std.proofs.lemmas.Int.{to_z-of_z}
use lib.IntN.{ℤ}
use mir.Val.{SFits, to_z}
use mir.Syntax.{w128}
use Rattle.offer_model.specs.Nodes.{mark_at}
use Rattle.offer_model.specs.LeafBounds.{most_beside}
use Rattle.linear_weights.specs.Weights.{weight_at}
use Rattle.several_step.specs.Chains.{flag_at}
use Rattle.several_step.proofs.ChainLemmas.{sum_more}
use Rattle.several_step.proofs.chains.beside.Goals as goal

pub plus-sum-requires : goal.plus-sum-requires
plus-sum-requires c =
    let fits : SFits w128 c.term.result = search rules in
    let f : ℕ → ℤ = λ i. most_beside (mark_at c.args.node.now i) (flag_at c.args.limited.now i) (weight_at c.args.list.now i) in
    let sum = sum_more c.loop-i.i f c.args.list.now.constant (to_z w128 c.loop-i.sum-bits) c.term.result c.loop-i.invariant c.term.ensures in
    rw (to_z-of_z w128 c.term.result fits, sum) (c.requires.fits (c.loop-i.i + 1) (omega (arith, c.len-i-end.ensures, ap length c.products.ensures.value)))

pub loop-i-preserved : goal.loop-i-preserved
loop-i-preserved c =
    let fits : SFits w128 c.plus-sum.result = search rules in
    let fits-term : SFits w128 c.term.result = search rules in
    let f : ℕ → ℤ = λ i. most_beside (mark_at c.args.node.now i) (flag_at c.args.limited.now i) (weight_at c.args.list.now i) in
    rw (to_z-of_z w128 c.plus-sum.result fits, c.plus-sum.ensures, to_z-of_z w128 c.term.result fits-term)
    (sum_more c.loop-i.i f c.args.list.now.constant (to_z w128 c.loop-i.sum-bits) c.term.result c.loop-i.invariant c.term.ensures)
