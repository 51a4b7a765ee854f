pub mod ArmStarts
pub mod Compositions
pub mod KindRows
pub mod OnePrimitive
pub mod PartRows
pub mod ReadyForms
pub mod Rounds
pub mod WordSteps
