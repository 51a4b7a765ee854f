pub mod AnswerLines
pub mod AnswersMade
pub mod CarriedLists
pub mod HubOpenings
pub mod RunsStay
