pub mod BlockLemmas
pub mod BucketLemmas
pub mod CopyLemmas
pub mod KeptLemmas
pub mod LawLemmas
