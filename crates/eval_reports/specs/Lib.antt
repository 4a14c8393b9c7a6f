pub mod EvalReports
pub mod WorkedReports
