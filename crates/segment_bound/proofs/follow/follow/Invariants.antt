use Rattle.std.proofs.Common.{◌≡◌, ℕ, ◌<◌}
use Rattle.offer_model.specs.Nodes.{mark_at}
use Rattle.segment_bound.specs.Orders.{listed_product}
use Rattle.segment_bound.specs.Kept.{IsKept}
use Rattle.segment_bound.proofs.follow.follow.Given as goal

abbrev pub invariant-loop-r : goal.invariant-loop-r
invariant-loop-r l = record {
  kept : IsKept l.order l.segments.items l.last l.sums;
  agrees : (j : ℕ) → j < l.r → mark_at l.last (listed_product l.order j) ≡ mark_at l.node (listed_product l.order j);
}
