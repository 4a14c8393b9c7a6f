pub mod ListLemmas
pub mod LadderListLemmas
pub mod LadderLemmas
pub mod SpaceLemmas
pub mod KeptLemmas
pub mod SegmentLemmas
