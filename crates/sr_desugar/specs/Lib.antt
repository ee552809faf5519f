pub mod Bodies
pub mod Core
pub mod Declarations
pub mod Laws
pub mod Numbered
pub mod Statements
