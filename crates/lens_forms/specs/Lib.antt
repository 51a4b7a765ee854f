pub mod Forms
pub mod Measures
pub mod Typing
