pub mod Events
pub mod Reading
pub mod ToldLines
pub mod ShownState
pub mod AnswerSteps
