pub mod Program
pub mod Journal
pub mod Invariant
