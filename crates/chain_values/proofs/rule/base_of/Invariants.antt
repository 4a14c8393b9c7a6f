use Rattle.std.proofs.Common.{◌≡◌, ℕ, ◌<◌, length, get_or, cond, false}
use Rattle.chain_values.proofs.rule.base_of.Given as goal

abbrev pub invariant-loop-i : goal.invariant-loop-i
invariant-loop-i l = record {
  each : length l.base.items ≡ l.i;
  base : (k : ℕ) → k < l.i → get_or l.base.items k 0 ≡ cond (get_or l.set k false) (get_or l.margins k 0) 0;
}
