pub mod Classes
pub mod Dividing
pub mod Indexed
pub mod Indexes
pub mod Lines
pub mod Queues
