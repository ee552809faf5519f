pub mod Scenes
pub mod Services
pub mod Variables
pub mod Outs
