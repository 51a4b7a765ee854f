mod Examples
pub mod Ranges
pub mod Facts
pub mod Counts
pub mod Levels
pub mod ReadLoops
pub mod DocumentOf
pub mod TreeDepths
pub mod Shapes
pub mod WritingReadsBack
pub mod TreesDiffer
pub mod ReadingHasTree
pub mod Writing
