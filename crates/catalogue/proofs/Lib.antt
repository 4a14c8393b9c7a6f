pub mod ConstantLemmas
pub mod CatalogueProblemLemmas
pub mod LimitLemmas
pub mod LimitNameLemmas
pub mod SegmentLemmas
pub mod SegmentStepLemmas
pub mod SegmentPairLemmas
