pub mod HubTexts
pub mod RunTexts
pub mod WrittenTexts
