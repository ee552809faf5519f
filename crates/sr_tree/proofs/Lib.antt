pub mod ExprFolds
pub mod Nested
pub mod StatementFolds
pub mod TypeFolds
