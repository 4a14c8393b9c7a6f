use Rattle.std.proofs.Common.{◌≡◌, ◌*◌, ◌≤◌, ◌^◌, cond}
use Rattle.offer_model.specs.Assortments.{offers, sum_below}
use Rattle.offer_model.specs.Problems.{segment_at, margin_of, attraction_of}
use Rattle.offer_model.proofs.earnings.gain.Given as goal

abbrev pub invariant-loop-i : goal.invariant-loop-i
invariant-loop-i l = record {
  sum : l.total ≡ sum_below l.i (λ i. cond (offers l.x i) (margin_of l.p i * attraction_of (segment_at l.p l.g) i) 0);
  small : l.total ≤ l.i * 10 ^ 18;
}
