use Rattle.std.proofs.Common.{◌∙◌, sym}
use Rattle.linear_step.specs.Weights.{weight_at}
use Rattle.leaf_bounds.proofs.LadderLemmas.{potentials_fit, fit_potentials}
use Rattle.leaf_bounds.proofs.potentials.Potentials.fit.Goals as goal

pub returns-clause-value : goal.returns-clause-value
returns-clause-value c = (
  λ t. potentials_fit c.args.p.now c.args.node.now (weight_at c.args.weights.now) c.find_usable.new.usable c.args.numbers.now.items c.find_usable.ensures
      (sym c.len.ensures ∙ c.if-len.false ∙ c.len-2.ensures ∙ c.requires.node) (c.are_potentials.ensures.0 t),
  λ k. c.are_potentials.ensures.1 (fit_potentials c.args.p.now c.args.node.now (weight_at c.args.weights.now) c.find_usable.new.usable c.args.numbers.now.items c.find_usable.ensures k),
)
