mod Examples
pub mod DealtPatterns
pub mod ExactImages
pub mod ImagesOfAlternatives
pub mod ImagesOfCompositions
pub mod ImagesOfContainers
pub mod ImagesOfForms
pub mod ImagesOfLeaves
pub mod ImagesOfPartitions
pub mod ImagesOfRecords
pub mod PatternsByName
pub mod PatternsOfItems
pub mod SidesOfTriples
pub mod TypedPatterns
pub mod PatternLists
