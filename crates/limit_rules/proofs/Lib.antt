pub mod CallerLemmas
pub mod LadderLemmas
pub mod OrderLemmas
pub mod WorkedKindLemmas
