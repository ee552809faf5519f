pub mod Causes
pub mod Journal
pub mod Numbers
pub mod Reading
