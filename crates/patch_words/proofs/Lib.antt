pub mod WordsLead
pub mod WalkSteps
