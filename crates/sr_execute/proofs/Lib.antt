pub mod Firsts
pub mod Meant
pub mod Numbers
pub mod Storing
pub mod Taking
