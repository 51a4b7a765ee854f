-- What changes and opened hubs stand for.
use Rattle.std.specs.Prelude.{ℕ, List, map}
use Rattle.view_hub.specs.Views.{HubOf, hub_tree, edit_tree, edit_trees}
use Rattle.lens_flat.specs.declared.flat.ReadyForm.{ReadyForm}
use Rattle.hub_run.specs.RunStates.{forms_of_lenses}
use Rattle.program_terms.specs.Views.{program_tree}
use Rattle.program_terms.specs.declared.program.Program.{Program}
use Rattle.program_writing.specs.Canonical.{canonical}
use Rattle.hub_records.specs.HubChanges.{HubChangeTree, one, group}
use Rattle.hub_records.specs.HubStands.{HubStanding}
use Rattle.hub_records.specs.declared.change.HubChange.{HubChange}
use Rattle.hub_records.specs.declared.change.HubChange.TheVariants.{One, Group}

-- the tree of a change
abbrev pub hub_change_tree : HubChange → HubChangeTree
hub_change_tree (One e) = one (edit_tree e)
hub_change_tree (Group es) = group (edit_trees es.items)

-- the forms of a hub's lenses, its parts, and a number of changes
abbrev pub hub_standing : HubOf ReadyForm → ℕ → HubStanding
hub_standing h count = record { forms = forms_of_lenses h.lenses; hub = hub_tree h.parts; count = count }

-- the canonical texts of programs
abbrev pub canonical_texts : List Program → List (List ℕ)
canonical_texts programs = map (λ p. canonical (program_tree p)) programs
