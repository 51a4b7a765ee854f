pub mod Numbers
pub mod Parts
pub mod DocumentJson
pub mod Reading
pub mod SmallTrees
