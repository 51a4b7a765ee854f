pub mod Accepted
mod Applied
pub mod Choices
mod Counted
pub mod Ends
mod Examples
mod Lists
mod Measures
pub mod Progress
mod Related
