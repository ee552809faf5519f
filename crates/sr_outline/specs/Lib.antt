pub mod Heads
pub mod Needs
pub mod Numbers
pub mod Outline
pub mod Shapes
