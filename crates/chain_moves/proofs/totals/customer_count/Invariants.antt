use Rattle.std.proofs.Common.{◌≡◌, ◌≤◌, ◌*◌, ◌+◌, ◌^◌, slice_index}
use Rattle.offer_model.specs.Assortments.{sum_below}
use Rattle.chain_moves.proofs.totals.customer_count.Given as goal

abbrev pub invariant-loop-i : goal.invariant-loop-i
invariant-loop-i l = record {
  is : l.sum ≡ l.chain.away + sum_below l.i (slice_index l.chain.arrivals);
  small : l.sum ≤ (l.i + 1) * 10 ^ 9;
}
