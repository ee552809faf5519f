pub mod Reads
pub mod Refused
