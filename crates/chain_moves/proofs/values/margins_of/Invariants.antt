use Rattle.std.proofs.Common.{◌≡◌, ℕ, ◌<◌, length, get_or}
use Rattle.offer_model.specs.Stopping.{own_value}
use Rattle.chain_moves.proofs.values.margins_of.Given as goal

abbrev pub invariant-loop-i : goal.invariant-loop-i
invariant-loop-i l = record {
  each : length l.all.items ≡ l.i;
  value : (k : ℕ) → k < l.i → get_or l.all.items k 0 ≡ own_value l.chain k;
}
