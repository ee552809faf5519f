pub mod Laws
pub mod Soundness
pub mod Loops
