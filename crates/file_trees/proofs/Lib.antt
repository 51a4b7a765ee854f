pub mod Owned
pub mod Tokens
