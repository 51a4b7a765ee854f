pub mod AddCall
pub mod AddReading
pub mod AddedView
