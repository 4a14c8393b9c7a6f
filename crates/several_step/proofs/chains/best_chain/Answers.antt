use Rattle.std.proofs.Common.{◌≡◌, cond, ap, ◌∙◌, true, arith, rules}
use Rattle.std.specs.Prelude.{pos}
use Rattle.std.specs.Int.{int_max}
use Rattle.std.proofs.lemmas.Int.{to_z-of_z}
use mir.Val.{SFits, to_z}
use mir.Syntax.{w128}
use Rattle.linear_weights.specs.Weights.{weight_at}
use Rattle.several_step.specs.Chains.{rung_at, stands, is_usable, ending_with}
use Rattle.several_step.proofs.ChainLemmas.{chain_more, ends_more}
use Rattle.several_step.proofs.chains.best_chain.Goals as goal

pub loop-k-preserved : goal.loop-k-preserved
loop-k-preserved c =
    let fits-max : SFits w128 c.max-best.result = search rules in
    let fits-end : SFits w128 c.ending-end.result = search rules in
    let node = c.args.node.now in
    let rungs = c.args.rungs.now in
    record {
      best = rw (to_z-of_z w128 c.max-best.result fits-max)
          (chain_more (is_usable node (weight_at c.args.list.now) rungs) (λ q r. stands (rung_at rungs q) (rung_at rungs r)) (λ k. weight_at c.args.list.now (rung_at rungs k).at)
          c.loop-k.k (λ q. true) (to_z w128 c.loop-k.best-bits) c.ending-end.result c.max-best.result c.loop-k.invariant.best c.ending-end.ensures
          (c.max-best.ensures.value ∙ ap (int_max (to_z w128 c.loop-k.best-bits)) (to_z-of_z w128 c.ending-end.result fits-end)));
      ends = λ q l. ends_more c.loop-k.ends _ c.loop-k.k c.ending-end.result (ending_with node (weight_at c.args.list.now) rungs) (search rules) (search (rules, to_z-of_z)) c.loop-k.invariant.ends
          c.ending-end.ensures q l;
      room = search rules;
    }
