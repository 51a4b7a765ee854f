pub mod HubClauses
pub mod HubRefusals
pub mod HubWords
pub mod HubsInStep
