pub mod Groups
pub mod Least
pub mod Parents
