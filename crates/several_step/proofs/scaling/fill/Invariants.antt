use Rattle.std.proofs.Common.{◌≡◌, ℕ, ◌<◌, length}
use Rattle.linear_weights.specs.Weights.{weight_at}
use Rattle.several_step.specs.Scales.{times}
use Rattle.several_step.proofs.scaling.fill.Given as goal

abbrev pub invariant-loop-i : goal.invariant-loop-i
invariant-loop-i l = record {
  long : length l.out.items ≡ l.i;
  each : (k : ℕ) → k < l.i → weight_at l.out k ≡ times l.up (weight_at l.weights k);
  constant : l.out.constant ≡ times l.up l.weights.constant;
  room : l.out.room ≡ l.fn.out.room;
}
