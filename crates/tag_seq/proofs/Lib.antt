mod Examples
pub mod Bounds
pub mod Heights
pub mod Making
pub mod Numbers
pub mod Ranks
pub mod Setting
pub mod Sides
pub mod Totals
