pub mod Instances
pub mod Tables
