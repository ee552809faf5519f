pub mod PartLemmas
pub mod ActLemmas
pub mod TeamLemmas
