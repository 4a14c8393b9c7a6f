pub mod WorkedGoals
