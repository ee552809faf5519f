pub mod Acts
pub mod Ascending
pub mod Merged
