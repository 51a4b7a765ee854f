pub mod WritingReadsBack
pub mod PrimitiveOf
pub mod Counts
mod Examples
pub mod Reading
pub mod TreeDepths
pub mod Shapes
pub mod ReadingHasTree
pub mod Writing
pub mod TreesDiffer
pub mod Tokens
pub mod TextsReadBack
