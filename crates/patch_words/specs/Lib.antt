pub mod ToWord
pub mod Laws
pub mod Walks
