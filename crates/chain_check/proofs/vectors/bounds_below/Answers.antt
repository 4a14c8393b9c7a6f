use Rattle.std.proofs.Common.{below_more, rules}
use Rattle.chain_check.specs.Vectors.{IsBelowAt}
use Rattle.chain_check.proofs.VectorLemmas.{below_all}
use Rattle.chain_check.proofs.vectors.bounds_below.Goals as goal

pub loop-i-preserved : goal.loop-i-preserved
loop-i-preserved c =
    below_more (λ k. IsBelowAt c.args.chain.now c.args.set.now c.args.values.now k) c.loop-i.i c.loop-i.invariant (c.is_below.ensures.0 (search rules))

pub returns : goal.returns
returns c = (
  λ t. below_all c.args.chain.now c.args.set.now c.args.values.now c.loop-i.i c.requires.most c.loop-i-test.false c.loop-i.invariant,
  λ k. search rules,
)
