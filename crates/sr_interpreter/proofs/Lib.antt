pub mod Completions
pub mod Executions
pub mod Steps
pub mod Weights
