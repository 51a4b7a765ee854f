mod Examples
pub mod Groups
pub mod RunInStep
pub mod StepsCarry
