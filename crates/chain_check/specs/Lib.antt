pub mod Waiting
pub mod Stages
pub mod Vectors
