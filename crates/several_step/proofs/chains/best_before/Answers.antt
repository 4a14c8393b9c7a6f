use Rattle.std.proofs.Common.{◌≡◌, cond, ap, ◌∙◌, rules}
use Rattle.std.specs.Prelude.{pos}
use Rattle.std.specs.Int.{int_max}
use Rattle.std.proofs.lemmas.Int.{to_z-of_z}
use mir.Val.{SFits, to_z}
use mir.Syntax.{w128}
use Rattle.linear_weights.specs.Weights.{weight_at}
use Rattle.several_step.specs.Chains.{rung_at, stands, is_usable, ending_with}
use Rattle.several_step.proofs.ChainLemmas.{chain_more}
use Rattle.several_step.proofs.chains.best_before.Goals as goal

pub loop-q-preserved : goal.loop-q-preserved
loop-q-preserved c =
    let fits-max : SFits w128 c.max-best.result = search rules in
    let fits-end : SFits w128 c.end_before.result = search rules in
    let node = c.args.node.now in
    let rungs = c.args.rungs.now in
    let end = c.end_before.ensures ∙ ap (λ z. cond (stands (rung_at rungs c.loop-q.q) (rung_at rungs c.args.k)) z (pos 0)) (c.requires.ends c.loop-q.q (search rules)) in
    rw (to_z-of_z w128 c.max-best.result fits-max)
    (chain_more (is_usable node (weight_at c.args.list.now) rungs) (λ q r. stands (rung_at rungs q) (rung_at rungs r)) (λ k. weight_at c.args.list.now (rung_at rungs k).at)
    c.loop-q.q (λ q. stands (rung_at rungs q) (rung_at rungs c.args.k)) (to_z w128 c.loop-q.best-bits) c.end_before.result c.max-best.result c.loop-q.invariant end
    (c.max-best.ensures.value ∙ ap (int_max (to_z w128 c.loop-q.best-bits)) (to_z-of_z w128 c.end_before.result fits-end)))
