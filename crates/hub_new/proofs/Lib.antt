pub mod HubInitEnds
pub mod HubsRead
pub mod ViewPrograms
