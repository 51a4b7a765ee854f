pub mod HubRuns
