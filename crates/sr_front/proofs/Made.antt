-- What is made of a program passes a test where its parts do: one walk over statements, blocks and components.
pub mod MadeCode
pub mod MadeComponents
pub mod MadeDecls
pub mod MadeHere
pub mod MadeStatements
pub mod MadeTests
