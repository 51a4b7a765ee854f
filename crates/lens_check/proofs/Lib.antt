pub mod ArmSearch
pub mod FarFields
pub mod FieldPlaces
mod Examples
pub mod Decisions
pub mod FitLoops
pub mod FitTests
pub mod HeldPatterns
pub mod ImageSteps
pub mod Levels
pub mod MatchLoops
pub mod MatchTests
pub mod PartContents
pub mod PartCounts
mod PartExamples
pub mod PartItems
pub mod PartNames
pub mod PartRecords
pub mod ReadyForms
pub mod SortedNames
pub mod TagNumbers
pub mod WholePatterns
