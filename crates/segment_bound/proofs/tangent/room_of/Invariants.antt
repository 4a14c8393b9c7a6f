use Rattle.std.proofs.Common.{◌≡◌, ◌≤◌, cond}
use Rattle.offer_model.specs.Assortments.{sum_below}
use Rattle.offer_model.specs.Nodes.{mark_at, is_in}
use Rattle.segment_bound.proofs.tangent.room_of.Given as goal

abbrev pub invariant-loop-i : goal.invariant-loop-i
invariant-loop-i l = record {
  taken : l.taken ≡ sum_below l.i (λ j. cond (is_in (mark_at l.node j)) 1 0);
  few : l.taken ≤ l.i;
}
