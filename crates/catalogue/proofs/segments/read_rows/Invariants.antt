use Rattle.std.proofs.Common.{◌≡◌, ◌<◌, ℕ, None}
use Rattle.catalogue.specs.SegmentTables.{segment_fault}
use Rattle.catalogue.specs.SegmentDrafts.{HasSeenSegments}
use Rattle.catalogue.proofs.segments.read_rows.Given as goal

-- no row so far has a fault, and what they say is seen
abbrev pub invariant-rows : goal.invariant-rows
invariant-rows l = record {
  clean : (j : ℕ) → j < l.k → segment_fault l.catalogue l.unit l.table j ≡ None;
  seen : HasSeenSegments l.catalogue l.unit l.table l.k l.seen;
}
