use Rattle.catalogue.proofs.SegmentLemmas.{drafted_in_range}
use Rattle.catalogue.proofs.segment_draft.SegmentDraft.close.Goals as goal

pub new-segment-requires : goal.new-segment-requires
new-segment-requires c =
    rw (c.in_ok-attract.ensures, c.in_ok-shadow.ensures, c.deref.ensures.value, c.len.ensures, c.self.inside.attract.ok.0)
    (drafted_in_range _ c.self.invariant)
