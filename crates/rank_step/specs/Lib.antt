pub mod Free
pub mod Caps
pub mod Rooms
pub mod Candidates
pub mod Greedy
pub mod Multipliers
pub mod Fits
