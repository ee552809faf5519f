pub mod Desks
pub mod Numbers
pub mod Scripts
