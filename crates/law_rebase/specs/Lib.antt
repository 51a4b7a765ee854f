pub mod Through
pub mod Chains
pub mod Laws
