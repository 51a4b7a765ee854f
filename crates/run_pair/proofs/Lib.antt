pub mod AnswerSteps
