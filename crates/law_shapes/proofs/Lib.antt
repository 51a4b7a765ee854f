pub mod ChildLaws
pub mod Children
pub mod Content
mod Examples
pub mod OtherChildren
pub mod Family
pub mod Lawful
pub mod Once
pub mod Parents
pub mod Permuted
pub mod SamePrefix
pub mod Sizes
