-- The lens of a store: what its first record says.
-- Read it from the end: `stored_lens` and `lens_and_version`.
use Rattle.std.specs.Prelude.{ℕ, List, [], ◌∷◌, Option, Some, None, option_map, option_and_then, Result, Ok, Err}
use Rattle.edit_journal.specs.EntryJson.{tree_of_text}
use Rattle.lens_forms.specs.Forms.{FormTree}
use Rattle.lens_syntax.specs.Programs.{unbounded}
use Rattle.program_accepted.specs.Program.{Refusal, form_of_program}
use Rattle.store_records.specs.RecordJson.{opening_of}

-- the lens, where the grammar and the typing accept the program
abbrev pub accepted : Result FormTree Refusal → Option FormTree
accepted (Ok l) = Some l
accepted (Err refusal) = None

-- the lens of a text of any length
abbrev pub form_of_text : List ℕ → Option FormTree
form_of_text text = accepted (form_of_program (unbounded text))

-- the lens of a text with the version of the store
abbrev pub with_form : List ℕ × ℕ → Option (FormTree × ℕ)
with_form o = option_map (λ l. (l, o.1)) (form_of_text o.0)

-- the text and the version of a payload, and its lens and the version
abbrev pub opening_of_payload : List ℕ → Option (List ℕ × ℕ)
opening_of_payload payload = option_and_then opening_of (tree_of_text payload)

abbrev pub lens_and_version : List ℕ → Option (FormTree × ℕ)
lens_and_version payload = option_and_then with_form (opening_of_payload payload)

-- the lens of the first record, with the version that it says
abbrev pub stored_lens : List (List ℕ) → Option (FormTree × ℕ)
stored_lens [] = None
stored_lens (p ∷ ps) = lens_and_version p
