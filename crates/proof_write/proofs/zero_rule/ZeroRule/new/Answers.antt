use Rattle.std.proofs.Common.{sym, subst}
use Rattle.multiplier_bound.specs.Fits.{AreFit}
use Rattle.proof_write.proofs.ZeroLemmas.{zeros_are_fit}
use Rattle.proof_write.proofs.zero_rule.ZeroRule.new.Goals as goal

pub relax-requires-clause-fit : goal.relax-requires-clause-fit
relax-requires-clause-fit c = subst (λ us. AreFit c.args.problem.now us) (sym c.in_ok-numbers.ensures) (zeros_are_fit c.args.problem.now c.products.ensures.valid)
