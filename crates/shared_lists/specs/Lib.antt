pub mod Edges
pub mod Items
pub mod ListItems
pub mod Nodes
pub mod RootMemory
pub mod formers
