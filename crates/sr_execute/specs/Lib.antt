pub mod Executes
pub mod Meant
pub mod Quick
pub mod Replies
