pub mod Rounds
pub mod Crews
pub mod Gathering
