pub mod OrderWords
pub mod RenamesHold
