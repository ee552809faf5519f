pub mod Clocks
pub mod Faults
pub mod Files
pub mod Hosts
pub mod Memory
pub mod Streams
