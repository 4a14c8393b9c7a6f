use Rattle.std.proofs.Common.{◌≡◌, ◌+◌, ◌≤◌, replicate}
use Rattle.catalogue.proofs.segment_draft.no_shadows.Given as goal

abbrev pub invariant-loop-k : goal.invariant-loop-k
invariant-loop-k l = record {
  items : l.list.items ≡ replicate l._k 0;
  room : l.products ≤ l.list.spare + l._k;
}
