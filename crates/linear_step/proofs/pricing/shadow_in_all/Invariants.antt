use Rattle.std.proofs.Common.{◌≡◌, ◌*◌, ◌≤◌, ◌^◌}
use Rattle.offer_model.specs.Assortments.{sum_below}
use Rattle.offer_model.specs.Problems.{shadow_of, first_segment}
use Rattle.linear_step.proofs.pricing.shadow_in_all.Given as goal

abbrev pub invariant-loop-i : goal.invariant-loop-i
invariant-loop-i l = record {
  sum : l.total ≡ sum_below l.i (shadow_of (first_segment l.p));
  small : l.total ≤ l.i * 10 ^ 9;
}
