use Rattle.std.proofs.Common.{arith}
use Rattle.offer_model.specs.Chains.{place_count}
use Rattle.offer_model.specs.Stopping.{value_bound}
use Rattle.chain_values.specs.Sweeps.{next_value}
use Rattle.chain_values.proofs.SweepLemmas.{falls_all}
use Rattle.chain_values.proofs.NextValueLemmas.{next_monotone}
use Rattle.chain_values.proofs.JumpLemmas.{falls_small, sum_pointwise}
use Rattle.chain_values.proofs.jump.jump.Goals as goal

pub drops-requires-clause-small : goal.drops-requires-clause-small
drops-requires-clause-small c = falls_small c.args.chain.now c.args.rule.now c.args.values.now c.requires.ready.chain c.requires.falls

pub reach-steps-requires-clause-small : goal.reach-steps-requires-clause-small
reach-steps-requires-clause-small c = falls_small c.args.chain.now c.args.rule.now c.args.values.now c.requires.ready.chain c.requires.falls

pub returns-clause-falls : goal.returns-clause-falls
returns-clause-falls c =
    let long = c.fall.auto.values in
    let each = c.requires.falls.each in
    let many = c.drops.auto.guess in
    let count = c.requires.guess in
    falls_all (place_count c.args.chain.now) (value_bound c.args.chain.now) (next_value c.args.chain.now c.args.rule.now) c.args.values.now c.fall.new.values c.drops.new.guess
    (next_monotone c.args.chain.now c.args.rule.now c.requires.ready.chain.some) c.requires.falls (omega (arith, long, each))
    (λ i l. c.drops.ensures.value i (omega (arith, many, count)))
    (λ i l. c.fall.ensures i (omega (arith, long, each)))

pub returns-clause-less : goal.returns-clause-less
returns-clause-less c =
    let long = c.fall.auto.values in
    sum_pointwise c.fall.new.values c.args.values.now long (λ i l. let h = c.fall.ensures i l in omega arith)
