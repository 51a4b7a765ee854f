pub mod Kinds
pub mod LawsOfForms
pub mod Pairs
pub mod Ready
