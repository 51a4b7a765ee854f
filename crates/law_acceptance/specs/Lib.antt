pub mod Acceptable
