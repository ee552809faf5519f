pub mod Desks
pub mod Hands
pub mod Jobs
pub mod Notes
pub mod Players
pub mod Playing
