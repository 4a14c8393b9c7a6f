use Rattle.std.proofs.Common.{◌≡◌, cond}
use Rattle.std.specs.Prelude.{pos, ◌+ℤ◌}
use Rattle.offer_model.specs.Assortments.{offers}
use Rattle.offer_model.specs.Prices.{int_sum_below}
use Rattle.linear_weights.specs.Weights.{weight_at}
use Rattle.linear_weights.proofs.weights.Weights.worth.Given as goal

abbrev pub invariant-loop-i : goal.invariant-loop-i
invariant-loop-i l = l.sum ≡ l.self.constant +ℤ int_sum_below l.i (λ i. cond (offers l.x i) (weight_at l.self i) (pos 0))
