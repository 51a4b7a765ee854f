pub mod AmongStatuses
