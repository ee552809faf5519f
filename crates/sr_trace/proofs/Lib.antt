pub mod ArrowLemmas
pub mod ColumnLemmas
