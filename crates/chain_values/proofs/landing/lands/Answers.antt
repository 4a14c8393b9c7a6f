use Rattle.std.proofs.Common.{ℕ, ◌<◌, ◌≤◌, rules, get_or, length, below_more, sym, ◌∙◌, slice_index}
use Rattle.chain_values.specs.Landings.{LandsAt}
use Rattle.chain_values.proofs.JumpLemmas.{below_small, lands_whole, sum_pointwise}
use Rattle.chain_values.proofs.landing.lands.Goals as goal

pub lands_at-requires-clause-small : goal.lands_at-requires-clause-small
lands_at-requires-clause-small c =
    let below : (i : ℕ) → i < length c.args.values.now → get_or c.args.values.now i 0 ≤ get_or c.args.from.now i 0 = c.is_below.ensures (search rules) in
    below_small c.args.chain.now c.args.rule.now c.args.from.now c.args.values.now c.requires.ready.chain c.requires.from c.requires.each below

pub products-preserved : goal.products-preserved
products-preserved c =
    let here : LandsAt c.args.chain.now c.args.rule.now (slice_index c.args.values.now) c.products.i = c.lands_at.ensures (search rules) in
    below_more (λ k. LandsAt c.args.chain.now c.args.rule.now (slice_index c.args.values.now) k) c.products.i c.products.invariant here

pub returns-clause-falls : goal.returns-clause-falls
returns-clause-falls c = λ t.
    let below : (i : ℕ) → i < length c.args.values.now → get_or c.args.values.now i 0 ≤ get_or c.args.from.now i 0 = c.is_below.ensures (search rules) in
    lands_whole c.args.chain.now c.args.rule.now c.args.from.now c.args.values.now c.products.i c.requires.ready.chain c.requires.ready.rule c.requires.from c.requires.each below
    c.products-test.false c.products.invariant

pub returns-clause-less : goal.returns-clause-less
returns-clause-less c = λ t.
    let below : (i : ℕ) → i < length c.args.values.now → get_or c.args.values.now i 0 ≤ get_or c.args.from.now i 0 = c.is_below.ensures (search rules) in
    sum_pointwise c.args.values.now c.args.from.now (c.requires.each ∙ sym c.requires.from.each) below
