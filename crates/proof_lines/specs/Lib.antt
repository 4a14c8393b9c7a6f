pub mod Lines
pub mod Reading
pub mod Trees
pub mod Closing
pub mod Acceptance
pub mod WorkedProofs
pub mod Writing
pub mod Laws
