pub mod BucketLemmas
pub mod CopyLemmas
pub mod ProcessCallsLemmas
pub mod FirstLemmas
pub mod StepLemmas
