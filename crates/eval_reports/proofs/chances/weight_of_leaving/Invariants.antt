use Rattle.std.proofs.Common.{◌≡◌, ◌+◌, ◌*◌, ◌≤◌, ◌^◌, cond}
use Rattle.offer_model.specs.Assortments.{offers, sum_below}
use Rattle.offer_model.specs.Problems.{segment_at, shadow_of}
use Rattle.eval_reports.proofs.chances.weight_of_leaving.Given as goal

abbrev pub invariant-loop-i : goal.invariant-loop-i
invariant-loop-i l = record {
  sum : l.total ≡ (segment_at l.p l.g).none + sum_below l.i (λ i. cond (offers l.x i) 0 (shadow_of (segment_at l.p l.g) i));
  small : l.total ≤ (l.i + 1) * 10 ^ 9;
}
