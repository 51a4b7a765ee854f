pub mod CallsAreRuns
pub mod CutTexts
pub mod FirstLines
pub mod LeftPayloads
pub mod RunsAreOne
pub mod SameSteps
pub mod Sequences
pub mod StoresMeet
