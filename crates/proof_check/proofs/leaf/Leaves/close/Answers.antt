use Rattle.std.proofs.Common.{◌≡◌, rules}
use Rattle.proof_lines.specs.declared.line.Shape.TheVariants as S
use Rattle.linear_step.specs.Weights.{prices_of}
use Rattle.proof_check.proofs.LeafLemmas.{judged, judged_clash}
use Rattle.proof_check.proofs.leaf.Leaves.close.Goals as goal

pub returns-then-eq-clause-closes : goal.returns-then-eq-clause-closes
returns-then-eq-clause-closes c =
    let clash : c.args.shape ≡ S.Clash = search rules in
    judged_clash c.args.p.now c.args.x.now c.args.node.now c.args.shape c.args.numbers.now.items c.clashes.result clash c.requires.line c.clashes.ensures

pub returns-clause-closes : goal.returns-clause-closes
returns-clause-closes c =
    let other : c.args.shape ≡ S.Clash → ⊥ = search rules in
    let by_bound = c.bound.ensures.closes c.args.x.now in
    judged c.args.p.now c.args.x.now c.args.node.now c.args.shape c.args.numbers.now.items (prices_of c.args.weights.now) c.bound_closes.result other c.requires.model c.requires.weights.own
    (λ t. by_bound.1 (c.bound_closes.ensures.0 t), λ k. c.bound_closes.ensures.1 (by_bound.0 k))
