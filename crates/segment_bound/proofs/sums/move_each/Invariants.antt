use Rattle.std.proofs.Common.{◌≡◌, ℕ, ◌≤◌, ◌<◌, length}
use Rattle.offer_model.specs.Problems.{attraction_of}
use Rattle.segment_bound.specs.Sums.{IsMoved}
use Rattle.segment_bound.specs.Kept.{sums_at, listed_segment}
use Rattle.segment_bound.proofs.sums.move_each.Given as goal

abbrev pub invariant-loop-k : goal.invariant-loop-k
invariant-loop-k l = record {
  each : length l.sums ≡ length l.fn.sums;
  moved : (j : ℕ) → j < l.k → IsMoved l.was l.now_is l.q (attraction_of (listed_segment l.segments.items j) l.q.product) (sums_at l.fn.sums j) (sums_at l.sums j);
  others : (j : ℕ) → l.k ≤ j → sums_at l.sums j ≡ sums_at l.fn.sums j;
}
