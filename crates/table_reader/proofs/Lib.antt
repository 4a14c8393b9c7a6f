mod FieldLemmas
mod HeaderLemmas
pub mod PositionLemmas
mod RecordCountLemmas
mod TableLemmas
