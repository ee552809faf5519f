pub mod Living
pub mod Tables
