pub mod Orders
pub mod CommandLine
pub mod Matches
