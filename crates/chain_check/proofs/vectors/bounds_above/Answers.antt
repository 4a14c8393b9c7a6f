use Rattle.std.proofs.Common.{below_more, rules}
use Rattle.chain_check.specs.Vectors.{IsAboveAt}
use Rattle.chain_check.proofs.VectorLemmas.{above_all}
use Rattle.chain_check.proofs.vectors.bounds_above.Goals as goal

pub loop-i-preserved : goal.loop-i-preserved
loop-i-preserved c =
    below_more (λ k. IsAboveAt c.args.chain.now c.args.values.now k) c.loop-i.i c.loop-i.invariant (c.is_above.ensures.0 (search rules))

pub returns : goal.returns
returns c = (
  λ t. above_all c.args.chain.now c.args.values.now c.loop-i.i c.requires.each c.loop-i-test.false c.loop-i.invariant,
  λ k. search rules,
)
