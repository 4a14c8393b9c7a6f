pub mod Columns
pub mod LimitTables
pub mod SegmentTables
pub mod Drafts
pub mod SegmentDrafts
pub mod CatalogueProblems
