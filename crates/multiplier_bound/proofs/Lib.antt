pub mod PriceLemmas
pub mod RelaxLemmas
pub mod CallerLemmas
pub mod DescentLemmas
