pub mod Buckets
pub mod Calls
pub mod PerProcess
