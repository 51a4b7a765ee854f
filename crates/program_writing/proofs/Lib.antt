pub mod CanonicalSpelling
mod Examples
pub mod FirstFault
pub mod DefinitionsText
pub mod WritableSpelling
pub mod MentionedNames
pub mod CanonicalTokens
pub mod WritableTypes
pub mod TextSteps
pub mod InitialTokens
