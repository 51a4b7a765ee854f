pub mod AddStatuses
pub mod AddingEnds
pub mod AddsRead
pub mod ViewsMore
