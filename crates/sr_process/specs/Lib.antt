pub mod Processes
pub mod Together
