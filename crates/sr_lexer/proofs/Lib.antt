pub mod ChainLemmas
pub mod LiteralLemmas
pub mod OrderLemmas
pub mod OutcomeLemmas
pub mod PieceLemmas
pub mod SymbolLemmas
pub mod TallyLemmas
pub mod TrackLemmas
