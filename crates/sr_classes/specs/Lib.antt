pub mod Classes
pub mod Joins
