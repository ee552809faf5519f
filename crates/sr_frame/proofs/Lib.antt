pub mod Spacing
pub mod Stores
pub mod Drops
