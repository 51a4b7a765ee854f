mod Examples
pub mod OrderClauses
pub mod Statuses
pub mod StoreRefusals
pub mod FoundLogs
pub mod StoresInStep
pub mod SureEnds
