pub mod InstanceLemmas
pub mod TableLemmas
