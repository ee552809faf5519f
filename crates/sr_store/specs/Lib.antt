pub mod Buckets
pub mod Kept
pub mod Variables
