use Rattle.std.proofs.Common.{◌≡◌, ℕ, ◌<◌, length}
use Rattle.offer_model.specs.Prices.{prices_at}
use Rattle.linear_weights.specs.Weights.{weight_at, price_bound, constant_bound, IsWithin}
use Rattle.linear_step.proofs.pricing.weights_at.Given as goal

abbrev pub invariant-loop-i : goal.invariant-loop-i
invariant-loop-i l = record {
  long : length l.out.items ≡ l.i;
  each : (k : ℕ) → k < l.i → weight_at l.out k ≡ (prices_at l.p l.num l.den).price k;
  small : (k : ℕ) → k < l.i → IsWithin price_bound (weight_at l.out k);
  constant : l.out.constant ≡ (prices_at l.p l.num l.den).constant;
  bounded : IsWithin constant_bound l.out.constant;
  room : l.fn.out.room ≡ l.out.room;
}
