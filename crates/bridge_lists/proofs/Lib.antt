pub mod FarOrders
pub mod OrderSteps
pub mod Plans
pub mod Steps
pub mod Theorems
pub mod Edits
pub mod Back
pub mod FarEdits
