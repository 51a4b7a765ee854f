mod Examples
pub mod DistinctNames
pub mod FindDefinition
pub mod Levels
pub mod TreeLists
pub mod LemmaSets
