pub mod AgainComponents
pub mod AgainDeclarations
pub mod AgainExpressions
pub mod AgainParts
pub mod AgainStatements
pub mod AgainTypes
pub mod Retold
pub mod Trailing
