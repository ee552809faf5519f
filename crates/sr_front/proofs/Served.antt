-- Operations, the procs that serve them, and the statements that wait for them.
pub mod CalledParts
pub mod Clear
pub mod Operations
pub mod ProcNumbers
pub mod Procs
pub mod ServedApart
pub mod Serviced
pub mod Services
pub mod SiteCode
pub mod Sites
pub mod WaitApart
pub mod Waiting
pub mod WaitingCode
