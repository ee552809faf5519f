pub mod Drops
pub mod Replies
