use Rattle.std.proofs.Common.{◌≡◌, ◌≤◌}
use Rattle.offer_model.specs.Assortments.{sum_below}
use Rattle.segment_bound.proofs.TopListLemmas.{upper}
use Rattle.segment_bound.proofs.tops.top_sum.Given as goal

abbrev pub invariant-loop-k : goal.invariant-loop-k
invariant-loop-k l = record {
  so_far : l.total ≡ sum_below l.k (upper l.numbers.items l.first);
  from : l.first ≤ l.k;
}
