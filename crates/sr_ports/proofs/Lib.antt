pub mod Growth
pub mod Progress
pub mod Taken
