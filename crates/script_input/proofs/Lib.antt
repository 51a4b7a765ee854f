pub mod AddedLines
pub mod EndedLines
pub mod Fronts
pub mod Heads
pub mod LastCalls
pub mod Outcomes
mod PartExamples
pub mod ProgramTexts
pub mod Skips
pub mod TakenLines
pub mod TakenParts
