use Rattle.std.proofs.Common.{◌≡◌, ◌+◌, ◌≤◌, length, take}
use Rattle.offer_model.proofs.problem_copy.copy_segments.Given as goal

abbrev pub invariant-loop-k : goal.invariant-loop-k
invariant-loop-k l = record {
  copied : l.copy.items ≡ take l.k l.segments.items;
  room : length l.segments.items ≤ l.copy.spare + l.k;
}
