use Rattle.std.proofs.Common.{◌≡◌, ◌≤◌, cond}
use Rattle.std.specs.Prelude.{◌==◌}
use Rattle.offer_model.specs.Assortments.{sum_below}
use Rattle.offer_model.specs.Problems.{product_at}
use Rattle.segment_bound.proofs.caps.category_size.Given as goal

abbrev pub invariant-loop-i : goal.invariant-loop-i
invariant-loop-i l = record {
  size : l.size ≡ sum_below l.i (λ j. cond ((product_at l.p j).category == l.category) 1 0);
  few : l.size ≤ l.i;
}
