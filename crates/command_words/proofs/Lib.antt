pub mod ClapMatches
pub mod DecimalNumbers
mod Examples
pub mod OrderOfWords
pub mod SubcommandRows
