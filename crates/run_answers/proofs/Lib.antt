pub mod ActingCounts
pub mod AnswersHaveLines
pub mod InStep
pub mod StepCounts
