pub mod Expressions
pub mod Operators
pub mod Places
pub mod Shapes
