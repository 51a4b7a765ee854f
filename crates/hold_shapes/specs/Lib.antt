pub mod Causes
pub mod Gather
pub mod Plans
pub mod Runs
pub mod Shapes
pub mod Trees
