pub mod HubLines
pub mod HubTexts
pub mod PairTexts
