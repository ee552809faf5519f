pub mod Retelling
pub mod SameComponents
pub mod SameDeclarations
pub mod SameExpressions
pub mod SameStatements
pub mod SameTypes
