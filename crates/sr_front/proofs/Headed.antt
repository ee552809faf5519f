-- What is known of an operation fits the head of its declaration.
pub mod HeadCounts
pub mod HeadMade
pub mod HeadTrees
pub mod Headed
pub mod Heads
pub mod HeadsPass
pub mod Holding
pub mod ItemsPass
pub mod KnownHeaded
pub mod LocalHeads
pub mod MakingHeaded
pub mod OpsPass
pub mod Optypes
pub mod OptypesKnown
pub mod OptypesPass
pub mod SpecsPass
