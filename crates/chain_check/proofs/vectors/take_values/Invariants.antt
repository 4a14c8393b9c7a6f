use Rattle.std.proofs.Common.{◌≡◌, ℕ, ◌<◌, ◌≤◌, length, take}
use Rattle.std.specs.Prelude.{slice_index}
use Rattle.chain_check.proofs.vectors.take_values.Given as goal

abbrev pub invariant-loop-i : goal.invariant-loop-i
invariant-loop-i l = record {
  each : length l.values ≡ length l.numbers.items;
  same : length l.values ≡ length l.fn.values;
  taken : take l.i l.values ≡ take l.i l.numbers.items;
  small : (k : ℕ) → k < l.i → slice_index l.numbers.items k ≤ l.most;
}
