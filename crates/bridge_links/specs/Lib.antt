pub mod Links
pub mod Spans
