pub mod WordLemmas
pub mod ListedLemmas
pub mod WorkedTrialLemmas
pub mod SegmentLemmas
pub mod TrialLemmas
