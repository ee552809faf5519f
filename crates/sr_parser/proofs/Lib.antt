pub mod ArmSplits
pub mod Fields
mod Refusals
