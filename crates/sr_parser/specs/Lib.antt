pub mod ArmReaders
pub mod Commas
pub mod Programs
pub mod Reads
