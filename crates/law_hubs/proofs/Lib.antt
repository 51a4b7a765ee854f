pub mod HubNumbers
pub mod HubRunsExist
pub mod HubsApplied
