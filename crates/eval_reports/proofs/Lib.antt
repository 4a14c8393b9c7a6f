pub mod CallerLemmas
mod SegmentLemmas
mod WorkedReportLemmas
