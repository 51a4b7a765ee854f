pub mod TreesAt
