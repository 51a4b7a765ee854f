pub mod CutJournals
pub mod OneRun
pub mod StoreRuns
pub mod TwoCalls
