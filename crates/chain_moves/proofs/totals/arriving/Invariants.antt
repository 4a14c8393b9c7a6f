use Rattle.std.proofs.Common.{◌≡◌, ◌≤◌, ◌*◌, ◌^◌, get_or}
use Rattle.offer_model.specs.Assortments.{sum_below}
use Rattle.chain_moves.proofs.totals.arriving.Given as goal

abbrev pub invariant-loop-i : goal.invariant-loop-i
invariant-loop-i l = record {
  is : l.sum ≡ sum_below l.i (λ k. get_or l.chain.arrivals k 0 * get_or l.values k 0);
  small : l.sum ≤ l.i * 10 ^ 24;
}
