mod NumberTexts
pub mod Conversions
pub mod TreesAt
pub mod ReadParts
