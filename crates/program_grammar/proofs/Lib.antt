pub mod ReadingResults
pub mod RestOfTokens
pub mod MarkTokens
pub mod TokensLeft
