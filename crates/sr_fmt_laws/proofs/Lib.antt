pub mod Chains
pub mod KeptBits
pub mod LayoutBits
pub mod ReadBits
pub mod Relay
pub mod TokenBits
pub mod Touching
