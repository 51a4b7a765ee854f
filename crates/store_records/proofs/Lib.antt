pub mod AppliedWords
pub mod ChangesTaken
pub mod ComplementDepths
pub mod ComplementsAreRead
pub mod Openings
pub mod PayloadTrees
pub mod RecordsAreRead
pub mod SnapshotsTaken
