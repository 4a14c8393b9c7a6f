pub mod Closures
pub mod Flows
pub mod Adjacencies
pub mod Trees
pub mod Searches
pub mod Sizes
pub mod Phases
pub mod Ready
