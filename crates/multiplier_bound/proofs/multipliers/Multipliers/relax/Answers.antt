use Rattle.linear_weights.specs.Weights.{prices_of}
use Rattle.offer_model.specs.LeafBounds.{relaxed}
use Rattle.multiplier_bound.proofs.RelaxLemmas.{relaxed_sums_fit}
use Rattle.linear_weights.proofs.WeightLemmas.{SumsFit-same}
use Rattle.multiplier_bound.proofs.multipliers.Multipliers.relax.Goals as goal

pub returns : goal.returns
returns c = record {
  each = c.move_by_all.ensures.each;
  price = c.move_by_all.ensures.price;
  constant = c.move_by_all.ensures.constant;
  sums = λ node. SumsFit-same c.args.p.now node (prices_of c.move_by_all.new.list) (relaxed c.args.p.now c.args.numbers.now.items (prices_of c.args.weights.now)) c.move_by_all.ensures.constant c.move_by_all.ensures.price
      (relaxed_sums_fit c.args.p.now node c.args.numbers.now.items c.args.weights.now c.requires.fit c.requires.weights);
}
