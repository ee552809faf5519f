pub mod Readers
pub mod TypeReaders
