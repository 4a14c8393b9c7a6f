use Rattle.std.proofs.Common.{◌≡◌, ◌+◌, ◌≤◌, length, take}
use Rattle.step_rows.proofs.chains.list_of.Given as goal

abbrev pub invariant-loop-value : goal.invariant-loop-value
invariant-loop-value g l = record {
  items : l.list.items ≡ take l.value-index l.values;
  room : length l.values ≤ l.list.spare + l.value-index;
}
