-- Guards and orders are side-effect-free, and nothing stands where it has nothing to leave or to answer.
pub mod Allowed
pub mod AllowedCode
pub mod EffectFreeCode
pub mod EffectFreeCore
pub mod EffectFreeExprs
pub mod EffectFreeRules
pub mod EffectFreeSites
