pub mod HubReports
pub mod PairLines
pub mod PairReports
