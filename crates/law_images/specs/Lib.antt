pub mod Image
pub mod ImageLaws
pub mod PartImage
pub mod Patterns
