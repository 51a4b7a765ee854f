pub mod Answers
pub mod LineEnds
pub mod LineRuns
pub mod LineStops
pub mod Report
pub mod ScriptEnds
pub mod ScriptSteps
