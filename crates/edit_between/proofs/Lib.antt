pub mod Resized
pub mod KeySteps
pub mod NodeSteps
pub mod PartSteps
pub mod BetweenActs
pub mod BetweenLoops
pub mod DocParts
