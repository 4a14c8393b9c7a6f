use Rattle.std.proofs.Common.{◌≡◌, ℕ, ◌<◌, length}
use Rattle.std.specs.Prelude.{slice_index}
use Rattle.leaf_bounds.specs.Segments.{FitsSegment}
use Rattle.leaf_bounds.proofs.segments.fit_segments.Given as goal

abbrev pub invariant-loop-g : goal.invariant-loop-g
invariant-loop-g l = record {
  each : length l.numbers.items ≡ length l.p.segments;
  fits : (k : ℕ) → k < l.g → FitsSegment l.p l.node k (slice_index l.numbers.items k);
}
