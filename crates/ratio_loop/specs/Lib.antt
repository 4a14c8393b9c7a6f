pub mod Earnings
pub mod Trials
pub mod Ties
