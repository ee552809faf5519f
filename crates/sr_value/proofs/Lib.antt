pub mod DivisionLaws
pub mod FitLemmas
pub mod Counts
pub mod Numerals
