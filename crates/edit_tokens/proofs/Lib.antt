pub mod ReadingTokens
pub mod ReadingWords
pub mod ReadingChanges
