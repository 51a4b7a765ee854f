pub mod AcceptedForms
pub mod Refusals
