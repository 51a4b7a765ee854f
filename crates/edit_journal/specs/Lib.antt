pub mod Lines
pub mod Pieces
pub mod Held
pub mod EntryJson
pub mod Reading
