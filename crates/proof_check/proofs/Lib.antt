pub mod LeafLemmas
pub mod HeaderLemmas
pub mod AcceptedLemmas
