pub mod HubAdds
pub mod HubEnds
pub mod HubOrders
pub mod HubStores
pub mod MakesHub
