pub mod Outputs
pub mod HeaderLines
pub mod Searches
pub mod Leaves
pub mod PathRules
pub mod ZeroRules
pub mod MixedRules
