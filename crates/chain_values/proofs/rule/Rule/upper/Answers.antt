use Rattle.std.proofs.Common.{rules}
use Rattle.std.proofs.lemmas.List.{length-replicate}
use Rattle.chain_values.proofs.RuleLemmas.{upper_fits, upper_is}
use Rattle.chain_values.proofs.rule.Rule.upper.Goals as goal

pub returns-clause-upper : goal.returns-clause-upper
returns-clause-upper c = upper_is c.args.chain.now _ c.args.margins.now c.requires.margins (search rules) (search rules) (search rules)

pub returns-clause-rule : goal.returns-clause-rule
returns-clause-rule c = upper_fits c.args.chain.now _ c.requires.chain (rw c.in_ok-base.ensures c.requires.margins.each) (rw (c.in_ok-held.ensures, length-replicate) c.requires.margins.each)
    c.requires.most (returns-clause-upper c)
