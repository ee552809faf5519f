pub mod StatementParts
pub mod Turns
