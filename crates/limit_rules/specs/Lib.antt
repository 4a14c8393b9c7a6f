pub mod Kinds
pub mod Measures
pub mod Ladders
pub mod Broken
pub mod LadderProducts
pub mod WorkedKinds
