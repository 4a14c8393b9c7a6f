use Rattle.chain_values.proofs.RuleLemmas.{upper_greatest, falls_filled}
use Rattle.chain_values.proofs.answer.upper_of.Goals as goal

pub settled-requires-clause-falls : goal.settled-requires-clause-falls
settled-requires-clause-falls c =
    rw (c.in_ok-start.ensures, c.requires.most) (falls_filled c.args.chain.now c.in_ok-rule.rule _ c.requires.chain c.in_ok-rule.ensures.rule c.requires.margins.each)

pub returns : goal.returns
returns c = upper_greatest c.args.chain.now c.in_ok-rule.rule c.in_ok-values.values.items c.in_ok-rule.ensures.upper c.in_ok-values.ensures
