pub mod Answers
pub mod HubAnswers
pub mod HubKeeping
pub mod HubSlots
pub mod Keeping
pub mod Reasons
pub mod Slots
