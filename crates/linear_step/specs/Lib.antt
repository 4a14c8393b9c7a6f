pub use Rattle.linear_weights.specs.Weights
pub mod Answers
pub mod Closings
