pub mod RowLemmas
pub mod RowSumLemmas
pub mod WeighedLemmas
pub mod ValueLemmas
pub mod GapLemmas
