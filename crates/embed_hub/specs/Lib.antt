pub mod Journals
pub mod Embedded
pub mod Opening
pub mod Parts
pub mod Resuming
pub mod StateSteps
pub mod Steps
