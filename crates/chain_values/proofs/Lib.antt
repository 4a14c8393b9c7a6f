pub mod LeavingLemmas
pub mod StepLemmas
pub mod GapLemmas
pub mod CallerLemmas
pub mod SweepLemmas
pub mod NextValueLemmas
pub mod RuleLemmas
pub mod JumpLemmas
