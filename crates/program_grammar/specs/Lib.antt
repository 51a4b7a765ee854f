pub mod Grammar
pub mod PlainGrammar
pub mod Unexpected
pub mod Mentions
pub mod Names
pub mod Spelling
pub mod Reading
