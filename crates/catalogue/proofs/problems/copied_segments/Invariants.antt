use Rattle.std.proofs.Common.{◌≡◌, ◌+◌, ◌≤◌, length, map, take}
use Rattle.catalogue.specs.SegmentTables.{NamedSegment}
use Rattle.catalogue.proofs.problems.copied_segments.Given as goal

abbrev pub invariant-loop-g : goal.invariant-loop-g
invariant-loop-g l = record {
  items : l.list.items ≡ map (λ (named : NamedSegment). named.segment) (take l.g l.segments);
  room : length l.segments ≤ l.list.spare + l.g;
}
