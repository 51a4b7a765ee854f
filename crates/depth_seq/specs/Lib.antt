pub mod Searches
pub mod Sums
pub mod Trees
