use Rattle.chain_values.proofs.RuleLemmas.{lower_greatest, falls_from_upper}
use Rattle.chain_values.proofs.answer.lower_of.Goals as goal

pub settled-requires-clause-falls : goal.settled-requires-clause-falls
settled-requires-clause-falls c =
    rw c.in_ok-start.ensures (falls_from_upper c.args.chain.now c.args.set.now c.in_ok-rule.rule c.args.upper.now c.requires.chain c.in_ok-rule.ensures.lower c.requires.upper c.requires.set.set)

pub returns : goal.returns
returns c = lower_greatest c.args.chain.now c.args.set.now c.in_ok-rule.rule c.in_ok-values.values.items c.in_ok-rule.ensures.lower c.in_ok-values.ensures
