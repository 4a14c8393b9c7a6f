use Rattle.std.proofs.Common.{arith, sum}
use Rattle.offer_model.specs.Chains.{place_count}
use Rattle.offer_model.specs.Stopping.{value_bound}
use Rattle.chain_moves.proofs.ValueLemmas.{value_bound-small}
use Rattle.chain_values.specs.Sweeps.{next_value}
use Rattle.chain_values.proofs.SweepLemmas.{swept_more, sum_small}
use Rattle.chain_values.proofs.NextValueLemmas.{next_monotone}
use Rattle.chain_values.proofs.sweep.sweep.Goals as goal

pub next_value-after-requires-clause-small : goal.next_value-after-requires-clause-small
next_value-after-requires-clause-small c = λ j l.
    let small = c.products.invariant.falls.small j (omega arith) in
    let most = value_bound-small c.args.chain.now c.requires.ready.chain in omega arith

pub products-preserved : goal.products-preserved
products-preserved c =
    swept_more (place_count c.args.chain.now) (value_bound c.args.chain.now) (next_value c.args.chain.now c.args.rule.now) c.products.i (sum c.args.values.now) c.products.fallen
    c.next_value-after.result c.products.values (next_monotone c.args.chain.now c.args.rule.now c.requires.ready.chain.some) (omega arith) c.next_value-after.ensures c.products.invariant

pub overflow_add-fallen : goal.overflow_add-fallen
overflow_add-fallen c =
    let more = swept_more (place_count c.args.chain.now) (value_bound c.args.chain.now) (next_value c.args.chain.now c.args.rule.now) c.products.i (sum c.args.values.now) c.products.fallen
    c.next_value-after.result c.products.values (next_monotone c.args.chain.now c.args.rule.now c.requires.ready.chain.some) (omega arith) c.next_value-after.ensures c.products.invariant in
    let within = more.sums in
    let most = value_bound-small c.args.chain.now c.requires.ready.chain in
    let start = sum_small c.args.values.now 1000000000000000 (λ j l. let small = c.requires.falls.small j (omega arith) in omega arith) in
    let many = c.requires.ready.chain.few in
    let each = c.requires.falls.each in
    omega arith
