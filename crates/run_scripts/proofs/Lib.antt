pub mod AnsweredLines
pub mod Complete
pub mod JournalEnds
pub mod PiecesComeOn
pub mod Prefixes
pub mod RunSteps
pub mod ScriptEndsHold
pub mod StepsStay
