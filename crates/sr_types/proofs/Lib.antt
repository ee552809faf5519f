pub mod Numbers
pub mod OperatorLemmas
pub mod Places
