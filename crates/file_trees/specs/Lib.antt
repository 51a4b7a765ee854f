pub mod FileTrees
pub mod Refusals
