pub mod Pieces
pub mod Reader
