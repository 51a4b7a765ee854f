pub mod NewPayloadsMade
pub mod RemakeEndsHold
