pub mod SealedLists
pub mod SealedLogs
pub mod SealedRecords
