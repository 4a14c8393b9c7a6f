pub mod Views
pub mod DeskStates
pub mod Places
