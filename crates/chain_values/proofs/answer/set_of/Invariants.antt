use Rattle.std.proofs.Common.{◌≡◌, ℕ, ◌<◌, length, slice_index, eqb}
use Rattle.offer_model.specs.Assortments.{offers}
use Rattle.chain_values.proofs.answer.set_of.Given as goal

abbrev pub invariant-loop-i : goal.invariant-loop-i
invariant-loop-i l = record {
  each : length l.set ≡ length l.margins;
  set : (k : ℕ) → k < l.i → offers l.set k ≡ eqb (slice_index l.upper k) (slice_index l.margins k);
}
