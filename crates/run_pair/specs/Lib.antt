pub mod Runs
pub mod RunsInStep
pub mod Scripts
pub mod Shown
