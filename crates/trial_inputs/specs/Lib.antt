pub mod TrialInputs
pub mod WorkedTrials
