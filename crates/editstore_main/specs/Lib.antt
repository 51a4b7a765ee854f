pub mod Renames
pub mod StoreEnds
pub mod StoreOrders
