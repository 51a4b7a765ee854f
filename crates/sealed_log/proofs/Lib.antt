mod Examples
pub mod PayloadPlaces
pub mod OpenedRecords
pub mod SealedLists
pub mod Appends
pub mod Openings
pub mod ChangedRecords
pub mod MovedRecords
