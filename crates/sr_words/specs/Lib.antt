pub mod Arguments
pub mod Commands
pub mod Numbers
pub mod Options
pub mod Parts
pub mod Verbs
