pub mod ChainLemmas
pub mod RungLemmas
pub mod OpenLemmas
pub mod WeightLemmas
pub mod SearchLemmas
pub mod ScaleLemmas
