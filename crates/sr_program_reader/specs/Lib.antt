pub mod ComponentReaders
pub mod DeclarationReaders
pub mod Files
pub mod StatementReaders
