use Rattle.std.proofs.Common.{rules}
use Rattle.chain_values.proofs.RuleLemmas.{lower_fits}
use Rattle.chain_values.proofs.rule.Rule.lower.Goals as goal

pub returns-clause-rule : goal.returns-clause-rule
returns-clause-rule c = lower_fits c.args.chain.now c.args.set.now _ c.requires.chain (search rules) (search rules) c.requires.most (search rules)
