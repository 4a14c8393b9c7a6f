pub mod CellLemmas
pub mod CallerLemmas
pub mod RoomLemmas
pub mod OpenLemmas
