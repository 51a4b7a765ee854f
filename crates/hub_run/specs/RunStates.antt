-- The state of a hub whose lenses are those of forms.
use Rattle.std.specs.Prelude.{List, map}
use Rattle.lens_flat.specs.declared.flat.ReadyForm.{ReadyForm}
use Rattle.lens_core.specs.declared.lens.EditLens as OfLens
use Rattle.lens_forms.specs.Forms.{FormTree, form_tree}
use Rattle.view_hub.specs.Hubs.{HubTree}
use Rattle.view_hub.specs.Laws.{IsHub}
use Rattle.view_hub.specs.Views.{HubOf, hub_tree}
use Rattle.hub_run.specs.FormLenses.{form_lens, lens_by}
use Rattle.hub_run.specs.Runs.{HubState}

-- the forms of lenses
abbrev pub forms_of_lenses : List ReadyForm → List FormTree
forms_of_lenses ls = map (λ (l : ReadyForm). form_tree l.typed) ls

-- the forms of a hub's lenses, and the hub
abbrev pub hub_state_of : HubOf ReadyForm → HubState
hub_state_of h = record { forms = forms_of_lenses h.lenses; hub = hub_tree h.parts }

-- a compiled lens: that of its form
abbrev pub ready_lens : OfLens.Ghosts ReadyForm
ready_lens = lens_by (λ (l : ReadyForm). form_tree l.typed) form_lens

-- each view is in its lens's consistency relation with the hub
abbrev pub IsHubOf : List ReadyForm → HubTree → Type 0
IsHubOf ls h = IsHub ready_lens ls h
