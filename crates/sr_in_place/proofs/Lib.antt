pub mod CheckingLemmas
pub mod FittingLemmas
pub mod IndexLemmas
pub mod PlaceLemmas
pub mod PuttingLemmas
pub mod ResultLemmas
