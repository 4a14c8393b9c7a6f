pub mod Opens
pub mod Chains
pub mod ChainFits
pub mod Firsts
pub mod Scales
pub mod WeightGoals
pub mod WeightLaws
pub mod SearchFits
