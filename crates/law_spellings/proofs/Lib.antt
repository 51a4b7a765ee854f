pub mod ReadingSteps
pub mod Marks
pub mod Lists
pub mod InitialValues
pub mod Types
pub mod Rows
pub mod Lenses
pub mod Definitions
pub mod Programs
mod Examples
