pub mod TreesOfTexts
