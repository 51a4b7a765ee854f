pub mod Arms
mod Examples
pub mod Floats
pub mod Found
pub mod Levels
pub mod Places
pub mod ReadForms
pub mod ReadPlaces
pub mod ReadRows
pub mod ReadSoFar
pub mod ReadTags
pub mod Rows
pub mod TagNames
pub mod TreeParts
pub mod TreesDiffer
pub mod TakenParts
