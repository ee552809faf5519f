pub mod Entries
pub mod Lists
pub mod Loops
pub mod Rounds
pub mod Turns
pub mod Works
