pub mod Fifos
pub mod Lowering
pub mod OneByOne
pub mod Places
pub mod Quantifiers
pub mod Stretches
