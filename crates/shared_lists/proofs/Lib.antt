pub mod AsBox
pub mod ChunkedLists
pub mod Edges
pub mod SplicedLists
