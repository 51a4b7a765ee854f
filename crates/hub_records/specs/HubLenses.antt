-- The lenses of a stored hub: what its first record says, and which lens a view more may have.
-- Read it from the end: `stored_forms`, `forms_of_items`, then `joining_form`.
use Rattle.std.specs.Prelude.{ℕ, ◌&&◌, Bool, true, List, [], ◌∷◌, ◌++◌, length, Option, Some, None, option_map}
use Rattle.std.specs.Prelude.{option_and_then, if◌then◌else◌, nat_lt}
use Rattle.serde_json.specs.Data.{Data, Items, no_items, item}
use Rattle.serde_json.specs.Find.{as_str}
use Rattle.doc_values.specs.Types.{is_same_ty}
use Rattle.edit_journal.specs.EntryJson.{tree_of_text}
use Rattle.lens_forms.specs.Forms.{FormTree, left_type}
use Rattle.store_records.specs.StoredLens.{form_of_text}
use Rattle.hub_run.specs.declared.pieces.TheConstants.{MOST_VIEWS}
use Rattle.hub_records.specs.HubRecords.{programs_of}

-- a lens may stand behind these: they are fewer than 64, and it has the left type of the first of them
abbrev pub joins : List FormTree → FormTree → Bool
joins [] l = true
joins (first ∷ others) l = nat_lt (length (first ∷ others)) MOST_VIEWS && is_same_ty (left_type first) (left_type l)

-- a lens that was found, if it may stand behind these
abbrev pub joining_form : List FormTree → Option FormTree → Option FormTree
joining_form before (Some l) = if joins before l then Some l else None
joining_form before None = None

-- these lenses, and behind them one that was found
abbrev pub forms_more : List FormTree → Option FormTree → Option (List FormTree)
forms_more before found = option_map (λ l. before ++ l ∷ []) (joining_form before found)

-- the lens of the program whose text a tree is, a text of any length
abbrev pub form_of_item : Data → Option FormTree
form_of_item d = option_and_then form_of_text (as_str d)

-- these lenses, and behind them those of the programs
abbrev pub forms_behind : List FormTree → Items → Option (List FormTree)
forms_behind before no_items = Some before
forms_behind before (item d ds) = option_and_then (λ forms. forms_behind forms ds) (forms_more before (form_of_item d))

-- the lenses of these programs, of which there is one at least
abbrev pub forms_of_items : Items → Option (List FormTree)
forms_of_items no_items = None
forms_of_items (item d ds) = forms_behind [] (item d ds)

-- the lenses of the first payload
abbrev pub forms_of_payload : List ℕ → Option (List FormTree)
forms_of_payload payload = option_and_then forms_of_items (option_and_then programs_of (tree_of_text payload))

-- the lenses of a store
abbrev pub stored_forms : List (List ℕ) → Option (List FormTree)
stored_forms [] = None
stored_forms (p ∷ ps) = forms_of_payload p
