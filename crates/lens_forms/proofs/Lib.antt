pub mod ArmParts
mod Examples
pub mod FormLevels
pub mod ListLengths
pub mod Partners
pub mod SortedFields
pub mod TreesOfRows
pub mod TypingLaws
