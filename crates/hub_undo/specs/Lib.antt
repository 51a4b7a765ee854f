pub mod HubUndoing
pub mod HubUndone
pub mod UndoLaws
pub mod UndoMaking
pub mod UndoSteps
pub mod UndoViews
