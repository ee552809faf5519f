-- What the code of an accepted program invokes may be invoked.
pub mod Invokes
pub mod InvokesActions
pub mod InvokesCode
pub mod InvokesDecls
pub mod InvokesExprs
pub mod InvokesKnown
pub mod InvokesMade
pub mod InvokesMet
pub mod InvokesNames
pub mod InvokesRules
pub mod InvokesStatements
pub mod InvokesTargets
pub mod InvokesTrees
