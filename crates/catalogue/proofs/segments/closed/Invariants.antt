use Rattle.std.proofs.Common.{◌≡◌, map, take, All}
use Rattle.offer_model.specs.Validity.{IsSegment}
use Rattle.catalogue.specs.Drafts.{segment_drafted}
use Rattle.catalogue.proofs.segments.closed.Given as goal

-- the segments of the drafts so far
abbrev pub invariant-drafts : goal.invariant-drafts
invariant-drafts l = record {
  rows : l.rows.items ≡ map segment_drafted (take l.draft-index l.drafts);
  valid : All (λ row. IsSegment row.segment) l.rows.items;
}
