-- Own and shared variables: each has its number, and formals are own ones.
pub mod DeclaredIn
pub mod OwnCode
pub mod OwnCore
pub mod OwnFormals
pub mod OwnOrShared
pub mod OwnServices
pub mod OwnSites
pub mod SharedTable
pub mod SharedVars
