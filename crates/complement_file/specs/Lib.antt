pub mod ComplementJson
pub mod Reading
pub mod Taken
