pub mod HubInit
pub mod HubParts
pub mod HubReading
