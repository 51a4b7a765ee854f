pub mod CarriedWords
pub mod ChainsOfBridges
