pub mod ListLemmas
pub mod ClaimLemmas
pub mod RoundLemmas
pub mod MeasureLemmas
pub mod ShareLemmas
pub mod CrewLemmas
pub mod GiveLemmas
pub mod GatherLemmas
