pub mod CappedHeights
pub mod DefinitionSteps
pub mod Entries
mod Examples
pub mod Lists
pub mod NodeHeights
pub mod Nodes
pub mod PartCounts
pub mod RepeatedNames
pub mod SideTypes
pub mod Sizes
pub mod SoundForms
pub mod StableSort
