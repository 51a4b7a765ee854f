mod Examples
pub mod Feeding
pub mod FirstEnds
pub mod LinesHeld
pub mod Texts
pub mod Entries
pub mod GroupItems
pub mod Groups
pub mod TextsReadBack
pub mod Reading
pub mod TreesDiffer
