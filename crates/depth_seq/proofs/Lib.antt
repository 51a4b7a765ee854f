pub mod Heights
pub mod Parts
pub mod Passed
pub mod SearchParts
pub mod Searches
pub mod Sums
