pub mod ListLoop
pub mod DefinitionLoop
pub mod FirstFault
pub mod CheckedNames
mod Examples
