pub mod AnswerLines
pub mod Answers
pub mod ItemRuns
pub mod ItemViews
