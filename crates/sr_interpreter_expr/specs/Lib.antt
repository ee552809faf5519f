pub mod Interpreters
