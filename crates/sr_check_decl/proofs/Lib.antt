pub mod Known
pub mod Lines
pub mod Naming
pub mod Places
pub mod ReadIn
pub mod Tests
pub mod TypesDeclared
pub mod Waves
