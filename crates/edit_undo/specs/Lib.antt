pub mod Stepping
pub mod Undone
pub mod UndoneViews
