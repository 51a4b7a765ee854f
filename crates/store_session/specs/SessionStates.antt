-- The state of a session.
use Rattle.edit_session.specs.Sessions.{SessionOf}
use Rattle.edit_session.specs.Views.{triple_tree}
use Rattle.lens_forms.specs.Forms.{form_tree}
use Rattle.lens_flat.specs.declared.flat.ReadyForm.{ReadyForm}
use Rattle.store_session.specs.StoredStates.{StoredState, state_with}

-- the form of its lens, and its triple
abbrev pub session_state : SessionOf ReadyForm → StoredState
session_state s = state_with (form_tree s.lens.typed) (triple_tree s.triple)
