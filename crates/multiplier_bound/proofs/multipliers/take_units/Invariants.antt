use Rattle.std.proofs.Common.{◌≡◌, ℕ, ◌<◌, ◌≤◌, get_or, length}
use Rattle.std.specs.Prelude.{pos, ◌-ℤ◌}
use Rattle.offer_model.specs.Problems.{product_count}
use Rattle.offer_model.specs.LeafBounds.{taken_by}
use Rattle.multiplier_bound.proofs.multipliers.take_units.Given as goal

abbrev pub invariant-loop-i : goal.invariant-loop-i
invariant-loop-i l = record {
  constant : l.each.constant ≡ l.fn.each.constant;
  each : length l.each.items ≡ product_count l.p;
  taken : (k : ℕ) → k < l.i → get_or l.each.items k (pos 0) ≡ get_or l.fn.each.items k (pos 0) -ℤ pos (taken_by l.p l.limit l.u k);
  rest : (k : ℕ) → l.i ≤ k → get_or l.each.items k (pos 0) ≡ get_or l.fn.each.items k (pos 0);
}
