use Rattle.std.proofs.Common.{◌≡◌, ℕ, ◌≤◌, ◌<◌, length}
use Rattle.std.specs.Prelude.{vec_len, vec_capacity}
use Rattle.segment_bound.specs.Kept.{sums_at, listed_segment}
use Rattle.segment_bound.proofs.bounds.empty_sums.Given as goal

abbrev pub invariant-loop-k : goal.invariant-loop-k
invariant-loop-k l = record {
  len : vec_len l.sums ≡ l.k;
  each : length l.sums.items ≡ l.k;
  room : l.k-end ≤ vec_capacity l.sums;
  empty : (j : ℕ) → j < l.k → sums_at l.sums.items j ≡ record { gain = 0; weight = (listed_segment l.segments.items j).none };
}
