pub mod Bridges
pub mod Bridged
pub mod Carried
pub mod Refusals
pub mod Spans
pub mod Laws
