pub mod Pricing
pub mod Fits
