pub mod TotalLemmas
pub mod ClaimLemmas
pub mod StepLemmas
pub mod CloseLemmas
