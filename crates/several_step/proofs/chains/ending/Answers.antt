use Rattle.std.proofs.Common.{◌≡◌, ◌^◌, ◌∙◌, true, not, arith, rules}
use Rattle.std.specs.Prelude.{pos, ◌≤ℤ◌}
use Rattle.std.proofs.lemmas.Int.{ints, to_z-of_z}
use mir.Val.{SFits, to_z}
use mir.Syntax.{w128}
use Rattle.linear_weights.specs.Weights.{weight_at}
use Rattle.several_step.specs.Chains.{rung_at, stands, is_usable}
use Rattle.several_step.proofs.ChainLemmas.{usable_price, chain_low, chain_high, within_price, within_chain}
use Rattle.several_step.proofs.chains.ending.Goals as goal

pub add-requires-clause-a : goal.add-requires-clause-a
add-requires-clause-a c =
    let fits : SFits w128 c.get.result = search rules in
    let low = usable_price c.args.node.now (weight_at c.args.list.now) c.args.rungs.now c.args.k (search rules) in
    let high = c.requires.prices.small c.args.k c.requires.rung in
    let same : c.get.result ≡ weight_at c.args.list.now (rung_at c.args.rungs.now c.args.k).at = search rules in
    rw (to_z-of_z w128 c.get.result fits, same) (within_price _ low high)

pub add-requires-clause-b : goal.add-requires-clause-b
add-requires-clause-b c =
    let fits : SFits w128 c.best_before-before.result = search rules in
    let node = c.args.node.now in
    let rungs = c.args.rungs.now in
    let price = weight_at c.args.list.now in
    let low = chain_low (is_usable node price rungs) (λ q r. stands (rung_at rungs q) (rung_at rungs r)) (λ k. price (rung_at rungs k).at) c.args.k (λ q. stands (rung_at rungs q) (rung_at rungs c.args.k)) in
    let high = chain_high (is_usable node price rungs) (λ q r. stands (rung_at rungs q) (rung_at rungs r)) (λ k. price (rung_at rungs k).at) (2 ^ 111) c.args.k (λ q. stands (rung_at rungs q) (rung_at rungs c.args.k))
    (λ q l. c.requires.prices.small q (search rules)) in
    rw (to_z-of_z w128 c.best_before-before.result fits, c.best_before-before.ensures)
    (within_chain _ c.args.k (let few = c.requires.prices.few in let rung = c.requires.rung in omega arith) low high)
