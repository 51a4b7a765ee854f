pub mod Rows
pub mod TagRanks
