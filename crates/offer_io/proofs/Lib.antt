pub mod LoadLemmas
pub mod EntryLemmas
pub mod PutLemmas
pub mod HeldLemmas
pub mod CallLemmas
pub mod WriteLemmas
pub mod CallerLemmas
