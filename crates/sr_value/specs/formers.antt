pub mod boxed
pub mod row
pub mod shared
