pub mod SameLemmas
pub mod SizeLemmas
pub mod CallerLemmas
