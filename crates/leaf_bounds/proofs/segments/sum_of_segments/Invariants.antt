use Rattle.std.proofs.Common.{◌≡◌, ◌*◌, ◌≤◌, ◌^◌}
use Rattle.std.specs.Prelude.{slice_index}
use Rattle.offer_model.specs.Assortments.{sum_below}
use Rattle.leaf_bounds.proofs.segments.sum_of_segments.Given as goal

abbrev pub invariant-loop-k : goal.invariant-loop-k
invariant-loop-k l = record {
  sum : l.total ≡ sum_below l.k (slice_index l.numbers.items);
  small : l.total ≤ l.k * 10 ^ 18;
}
