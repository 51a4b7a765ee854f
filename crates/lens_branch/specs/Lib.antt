pub mod AlternativeSteps
pub mod Branches
pub mod RecordSteps
