use Rattle.std.proofs.Common.{subst, sym}
use Rattle.proof_lines.specs.declared.line.Shape.TheVariants as S
use Rattle.linear_step.specs.Weights.{prices_of}
use Rattle.proof_check.specs.Leaves.{ClosesBy}
use Rattle.proof_check.proofs.leaf.Leaves.bound.Goals as goal

pub returns-in-Multipliers-clause-closes : goal.returns-in-Multipliers-clause-closes
returns-in-Multipliers-clause-closes c =
    subst (λ s. ClosesBy c.args.p.now (prices_of c.args.weights.now) c.args.node.now s c.args.numbers.now.items c.by_multipliers.result) (sym c.in-Multipliers.is) c.by_multipliers.ensures.closes

pub returns-in-Shelf-clause-closes : goal.returns-in-Shelf-clause-closes
returns-in-Shelf-clause-closes c =
    let none = rw c.in-Shelf.is at c.requires.line in
    subst (λ s. ClosesBy c.args.p.now (prices_of c.args.weights.now) c.args.node.now s c.args.numbers.now.items c.by_shelf.result) (sym c.in-Shelf.is)
    (subst (λ us. ClosesBy c.args.p.now (prices_of c.args.weights.now) c.args.node.now S.Shelf us c.by_shelf.result) (sym none) c.by_shelf.ensures.closes)

pub returns-in-Potentials-clause-closes : goal.returns-in-Potentials-clause-closes
returns-in-Potentials-clause-closes c =
    subst (λ s. ClosesBy c.args.p.now (prices_of c.args.weights.now) c.args.node.now s c.args.numbers.now.items c.by_potentials.result) (sym c.in-Potentials.is) c.by_potentials.ensures.closes
