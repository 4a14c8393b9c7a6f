use Rattle.std.proofs.Common.{◌≡◌}
use Rattle.std.specs.Prelude.{◌+ℤ◌}
use Rattle.offer_model.specs.Nodes.{mark_at}
use Rattle.offer_model.specs.Prices.{int_sum_below, most_of}
use Rattle.linear_weights.specs.Weights.{weight_at}
use Rattle.linear_weights.proofs.weights.Weights.greatest.Given as goal

abbrev pub invariant-loop-i : goal.invariant-loop-i
invariant-loop-i l = l.sum ≡ l.self.constant +ℤ int_sum_below l.i (λ i. most_of (mark_at l.node i) (weight_at l.self i))
