pub mod ShelfFits
pub mod ShelfReading
pub mod LadderRungs
pub mod LadderPotentials
pub mod LadderChoices
pub mod LadderFits
