mod Examples
pub mod MovedDepths
pub mod NameEdges
pub mod Nodes
pub mod OldPlaces
pub mod Pieces
pub mod PlanOrigins
pub mod RunOrigins
pub mod SharedItems
pub mod ChildPlaces
pub mod DepthSearches
pub mod ValidDepths
