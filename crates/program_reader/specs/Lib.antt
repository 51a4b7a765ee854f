pub mod Gives
pub mod Programs
pub mod Known
pub mod Causes
