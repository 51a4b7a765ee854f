pub mod Accepted
pub mod Entries
pub mod OneEntry
pub mod Parts
pub mod Steps
