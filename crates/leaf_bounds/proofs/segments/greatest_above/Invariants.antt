use Rattle.std.proofs.Common.{◌≡◌}
use Rattle.std.specs.Prelude.{◌+ℤ◌}
use Rattle.offer_model.specs.Nodes.{mark_at}
use Rattle.offer_model.specs.Prices.{int_sum_below, most_of, prices_above}
use Rattle.offer_model.specs.Problems.{segment_at}
use Rattle.leaf_bounds.proofs.segments.greatest_above.Given as goal

abbrev pub invariant-loop-i : goal.invariant-loop-i
invariant-loop-i l = l.sum ≡ (prices_above l.p (segment_at l.p l.g) l.units).constant
    +ℤ int_sum_below l.i (λ i. most_of (mark_at l.node i) ((prices_above l.p (segment_at l.p l.g) l.units).price i))
