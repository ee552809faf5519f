pub mod OrderLemmas
pub mod TouchLemmas
