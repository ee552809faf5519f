mod Digits
pub mod Settings
pub mod Rules
pub mod Walks
pub mod Whole
pub mod Rows
pub mod Parsed
pub mod Getters
