pub mod Bases
pub mod KeptViews
pub mod Views
pub mod Laws
