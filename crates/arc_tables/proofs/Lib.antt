pub mod ArcChainLemmas
pub mod ArcLemmas
pub mod ArcStepLemmas
pub mod ArrivalLemmas
pub mod ConstantLemmas
