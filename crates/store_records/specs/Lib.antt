pub mod RecordJson
pub mod RecordOutcomes
pub mod SnapshotsTaken
pub mod StoredComplements
pub mod StoredLens
