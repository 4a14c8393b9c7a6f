use Rattle.std.proofs.Common.{◌≡◌}
use Rattle.std.specs.Prelude.{◌+ℤ◌}
use Rattle.offer_model.specs.Nodes.{mark_at}
use Rattle.offer_model.specs.Prices.{int_sum_below}
use Rattle.offer_model.specs.LeafBounds.{most_beside}
use Rattle.linear_weights.specs.Weights.{weight_at}
use Rattle.several_step.specs.Chains.{flag_at}
use Rattle.several_step.proofs.chains.beside.Given as goal

abbrev pub invariant-loop-i : goal.invariant-loop-i
invariant-loop-i l = l.sum ≡ l.list.constant +ℤ int_sum_below l.i (λ i. most_beside (mark_at l.node i) (flag_at l.limited i) (weight_at l.list i))
