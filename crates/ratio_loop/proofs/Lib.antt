pub mod NumberLemmas
pub mod LoopFacts
pub mod TrialLemmas
pub mod MarkLemmas
