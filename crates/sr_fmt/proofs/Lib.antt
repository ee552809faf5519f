pub mod FrontLemmas
pub mod MarkLemmas
pub mod ToldLemmas
pub mod WalkLemmas
