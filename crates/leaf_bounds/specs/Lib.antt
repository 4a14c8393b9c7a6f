pub mod Potentials
pub mod LadderLists
pub mod Shelves
pub mod Kept
pub mod Segments
