pub mod Coming
pub mod Lines
pub mod PartSteps
pub mod Parts
pub mod Skipped
pub mod Taking
