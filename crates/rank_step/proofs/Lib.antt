pub mod DualityLemmas
pub mod FreeLemmas
pub mod PlaceLemmas
pub mod RoomLemmas
pub mod CandidateLemmas
pub mod GreedyLemmas
pub mod CutoffLemmas
