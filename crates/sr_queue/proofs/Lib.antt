pub mod ClassLemmas
pub mod DividingLemmas
pub mod IndexLemmas
pub mod LineLemmas
pub mod NextLemmas
pub mod QueueLemmas
pub mod SearchLemmas
