pub mod Program
pub mod Refused
