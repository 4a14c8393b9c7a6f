pub mod Waiting
pub mod Headers
pub mod Judging
pub mod Leaves
