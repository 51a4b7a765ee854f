pub mod HubsAlike
pub mod StoreTexts
