pub mod Calls
pub mod Declarations
pub mod Forms
pub mod Joining
pub mod Rows
pub mod Stretching
pub mod Trees
