use Rattle.std.proofs.Common.{◌≡◌, ℕ, ◌<◌, [], length, get_or, Vec, ◌≤◌}
use Rattle.std.specs.Global.{Global}
use Rattle.chain_moves.specs.declared.rows.Move.{Move}
use Rattle.chain_moves.proofs.rows.empty_rows.Given as goal

abbrev pub invariant-loop : goal.invariant-loop
invariant-loop l = record {
  each : length l.rows.items ≡ l.counter;
  inside : l.counter ≤ l.count;
  empty : (i : ℕ) (r : Vec Move Global) → i < l.counter → r ≡ get_or l.rows.items i r → r.items ≡ [];
}
