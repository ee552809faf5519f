pub mod BlockLemmas
pub mod JoinedLemmas
pub mod SearchLemmas
pub mod StartLemmas
