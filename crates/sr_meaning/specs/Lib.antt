pub mod Expressions
pub mod Here
pub mod Laws
pub mod Pieces
pub mod Places
pub mod Processes
pub mod Statements
pub mod WholeLaws
