pub mod Parts
pub mod Kinds
pub mod Values
pub mod WordJson
pub mod Depths
pub mod Reading
pub mod Tokens
