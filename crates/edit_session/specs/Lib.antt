pub mod Run
pub mod Sessions
pub mod Step
pub mod Views
