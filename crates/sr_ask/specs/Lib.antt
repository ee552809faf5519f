pub mod Asking
pub mod Behaviors
pub mod Here
pub mod Invocations
pub mod Items
pub mod Numbers
pub mod Places
pub mod Replies
