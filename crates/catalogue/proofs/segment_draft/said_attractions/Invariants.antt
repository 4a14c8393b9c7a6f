use Rattle.std.proofs.Common.{◌≡◌, ◌+◌, ◌≤◌, length, map, take, unwrap_or}
use Rattle.catalogue.proofs.segment_draft.said_attractions.Given as goal

abbrev pub invariant-loop-found : goal.invariant-loop-found
invariant-loop-found l = record {
  items : l.list.items ≡ map (λ found. unwrap_or found 0) (take l.found-index l.said);
  room : length l.said ≤ l.list.spare + l.found-index;
}
