pub mod AnswerSteps
pub mod HubAnswers
pub mod HubStates
pub mod PayloadLaws
