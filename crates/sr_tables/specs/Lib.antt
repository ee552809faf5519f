pub mod Lists
pub mod Parts
pub mod Shapes
pub mod Sites
pub mod Tables
