pub mod Blocks
pub mod Doing
pub mod Programs
pub mod Quantifiers
