use Rattle.std.proofs.Common.{◌≡◌, ℕ, ◌<◌, length, get_or}
use Rattle.offer_model.specs.Problems.{segment_at}
use Rattle.offer_model.specs.Revenue.{segment_value}
use Rattle.segment_bound.specs.Greatest.{greatest}
use Rattle.segment_bound.proofs.bounds.greatest_each.Given as goal

abbrev pub invariant-loop-k : goal.invariant-loop-k
invariant-loop-k l = record {
  each : length l.out ≡ length l.p.segments;
  greatest : (j : ℕ) → j < l.k → get_or l.out j 0 ≡ greatest (segment_value l.p (segment_at l.p j)) l.node;
}
