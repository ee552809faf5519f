pub mod CoreCrossing
pub mod Crossing
pub mod Jobs
