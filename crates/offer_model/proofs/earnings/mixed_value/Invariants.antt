use Rattle.std.proofs.Common.{◌≡◌, ◌*◌, ◌≤◌, ◌^◌}
use Rattle.offer_model.specs.Assortments.{sum_below}
use Rattle.offer_model.specs.Problems.{segment_at}
use Rattle.offer_model.specs.Revenue.{segment_value}
use Rattle.offer_model.proofs.earnings.mixed_value.Given as goal

abbrev pub invariant-loop-g : goal.invariant-loop-g
invariant-loop-g l = record {
  sum : l.total ≡ sum_below l.g (λ k. segment_value l.p (segment_at l.p k) l.x);
  small : l.total ≤ l.g * 10 ^ 18;
}
