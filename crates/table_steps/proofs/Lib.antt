pub mod ShelfLemmas
pub mod ShelfStepLemmas
pub mod SumLemmas
pub mod LadderLimitLemmas
pub mod LadderRungLemmas
pub mod LadderPotentialLemmas
pub mod LadderClimbLemmas
pub mod LadderAnswerLemmas
