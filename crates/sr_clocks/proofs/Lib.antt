pub mod ClockLemmas
pub mod GateLemmas
pub mod OriginLemmas
