pub mod Making
pub mod TreeTexts
pub mod UndoLaws
pub mod UndoRecords
pub mod Undoing
