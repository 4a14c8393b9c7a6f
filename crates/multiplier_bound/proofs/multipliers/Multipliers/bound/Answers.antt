use Rattle.std.proofs.Common.{◌∙◌, rules}
use mir.Val.{SFits}
use mir.Syntax.{w128}
use Rattle.std.proofs.lemmas.Int.{to_z-of_z}
use Rattle.linear_weights.specs.Weights.{prices_of}
use Rattle.offer_model.specs.LeafBounds.{relaxed}
use Rattle.linear_weights.proofs.WeightLemmas.{greatest_worth-same}
use Rattle.multiplier_bound.proofs.RelaxLemmas.{relaxed_sums_fit}
use Rattle.linear_weights.proofs.WeightLemmas.{SumsFit-same}
use Rattle.multiplier_bound.proofs.multipliers.Multipliers.bound.Goals as goal

pub greatest-requires-clause-sums : goal.greatest-requires-clause-sums
greatest-requires-clause-sums c =
    SumsFit-same c.args.p.now c.args.node.now (prices_of c.move_by_all.new.list) (relaxed c.args.p.now c.args.numbers.now.items (prices_of c.args.weights.now)) c.move_by_all.ensures.constant c.move_by_all.ensures.price
    (relaxed_sums_fit c.args.p.now c.args.node.now c.args.numbers.now.items c.args.weights.now c.requires.fit c.requires.weights)

pub returns-clause-value : goal.returns-clause-value
returns-clause-value c =
    let fits : SFits w128 c.greatest.result = search rules in
    to_z-of_z w128 c.greatest.result fits ∙ c.greatest.ensures
    ∙ greatest_worth-same c.args.p.now c.args.node.now (prices_of c.move_by_all.new.list) (relaxed c.args.p.now c.args.numbers.now.items (prices_of c.args.weights.now)) c.move_by_all.ensures.constant c.move_by_all.ensures.price
