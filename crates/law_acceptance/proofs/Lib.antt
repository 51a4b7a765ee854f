pub mod AcceptedTexts
mod Examples
pub mod LowTypes
pub mod NoFailure
pub mod NoRepeat
pub mod TypedTerms
