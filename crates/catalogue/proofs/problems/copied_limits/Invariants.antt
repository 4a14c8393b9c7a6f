use Rattle.std.proofs.Common.{◌≡◌, ◌+◌, ◌≤◌, length, take}
use Rattle.catalogue.proofs.problems.copied_limits.Given as goal

abbrev pub invariant-loop-i : goal.invariant-loop-i
invariant-loop-i l = record {
  items : l.list.items ≡ take l.i l.limits.items;
  room : length l.limits.items ≤ l.list.spare + l.i;
}
