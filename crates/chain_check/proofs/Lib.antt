pub mod AcceptedLemmas
pub mod StageLemmas
pub mod VectorLemmas
