pub mod ConstantLemmas
mod PrintedTextLemmas
pub mod ReadBackLemmas
pub mod CellLemmas
pub mod FaultLemmas
pub mod LentNameLemmas
pub mod NameLemmas
pub mod OutcomeLemmas
pub mod PlainLemmas
pub mod ProductLemmas
pub mod WorkedCatalogueLemmas
