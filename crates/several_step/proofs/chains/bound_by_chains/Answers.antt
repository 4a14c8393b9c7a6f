use Rattle.std.proofs.Common.{◌≡◌, ◌^◌, length, true, arith, rules}
use Rattle.std.proofs.lemmas.Int.{to_z-of_z}
use mir.Val.{SFits, to_z}
use mir.Syntax.{w128}
use Rattle.offer_model.specs.Problems.{product_count}
use Rattle.linear_weights.specs.Weights.{weight_at}
use Rattle.several_step.specs.Chains.{rung_at, stands, is_usable}
use Rattle.several_step.proofs.ChainLemmas.{chain_low, chain_high, within_chain, rungs_cheap}
use Rattle.several_step.proofs.SearchLemmas.{beside_fits}
use Rattle.several_step.proofs.chains.bound_by_chains.Goals as goal

pub best_chain-chain-requires-clause-prices : goal.best_chain-chain-requires-clause-prices
best_chain-chain-requires-clause-prices c = rungs_cheap c.args.p.now c.args.list.now c.args.rungs.now c.args.limited.now c.requires.list c.requires.rungs

pub beside-requires-clause-fits : goal.beside-requires-clause-fits
beside-requires-clause-fits c = beside_fits c.args.p.now c.args.list.now c.args.node.now c.args.limited.now c.requires.list

pub add-requires-clause-a : goal.add-requires-clause-a
add-requires-clause-a c =
    let fits : SFits w128 c.beside.result = search rules in
    rw (to_z-of_z w128 c.beside.result fits, c.beside.ensures)
    (beside_fits c.args.p.now c.args.list.now c.args.node.now c.args.limited.now c.requires.list (product_count c.args.p.now) (omega arith))

pub add-requires-clause-b : goal.add-requires-clause-b
add-requires-clause-b c =
    let fits : SFits w128 c.best_chain-chain.result = search rules in
    let node = c.args.node.now in
    let rungs = c.args.rungs.now in
    let price = weight_at c.args.list.now in
    let cheap = rungs_cheap c.args.p.now c.args.list.now rungs c.args.limited.now c.requires.list c.requires.rungs in
    let low = chain_low (is_usable node price rungs) (λ q r. stands (rung_at rungs q) (rung_at rungs r)) (λ k. price (rung_at rungs k).at) (length rungs) (λ q. true) in
    let high = chain_high (is_usable node price rungs) (λ q r. stands (rung_at rungs q) (rung_at rungs r)) (λ k. price (rung_at rungs k).at) (2 ^ 111) (length rungs) (λ q. true)
    cheap.small in
    rw (to_z-of_z w128 c.best_chain-chain.result fits, c.best_chain-chain.ensures.best) (within_chain _ (length rungs) cheap.few low high)
