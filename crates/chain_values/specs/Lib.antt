pub mod Sweeps
pub mod Landings
