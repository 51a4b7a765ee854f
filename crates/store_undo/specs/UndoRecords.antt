-- The records that `undo` stores and the lines that it writes, and what they are worth.
-- Read it from the end: `TakesBack`, `RepresentsNow`, `new_records`, `undo_text`.
use Rattle.std.specs.Prelude.{◌≡◌, ℕ, List, [], ◌∷◌, ◌++◌, codes, nat_eq, if◌then◌else◌, Option, Some, None}
use Rattle.std.specs.Prelude.{option_to_list, Ok}
use Rattle.serde_json.specs.Written.{compact_text}
use Rattle.edit_json.specs.WordJson.{tree_of_word}
use Rattle.answer_text.specs.Lines.{tree_line}
use Rattle.run_answers.specs.Answers.{state_lines}
use Rattle.lens_forms.specs.Forms.{left_type, right_type}
use Rattle.lens_core.specs.Consistency.{IsConsistent}
use Rattle.store_session.specs.StoredStates as states
use Rattle.store_session.specs.StoredStates.{state_with}
use Rattle.store_records.specs.RecordJson.{tree_of_version}
use Rattle.store_session.specs.Stands.{stands}
use Rattle.store_undo.specs.Undoing.{Undoing}
use Rattle.edit_undo.specs.Undone.{BringsBack}

-- ---- the lines

-- `undo left WORD`, `undo right WORD`, and the state lines of the triple before the last changes
abbrev pub undo_text : Undoing → List ℕ
undo_text u =
    tree_line (codes "undo left") (tree_of_word u.words.left)
    ++ (tree_line (codes "undo right") (tree_of_word u.words.right) ++ state_lines u.now.form u.before)

-- ---- the records

-- the record of the version 2, which is still to be stored at version 1
abbrev pub version_due : ℕ → Option (List ℕ)
version_due version = if nat_eq version 1 then Some (compact_text tree_of_version) else None

-- the version behind that record
abbrev pub version_then : ℕ → ℕ
version_then version = if nat_eq version 1 then 2 else version

-- the snapshot of the triple before the last changes
abbrev pub undo_snapshot_text : Undoing → List ℕ
undo_snapshot_text u = states.snapshot_text (state_with u.now.form u.before)

-- the version record, if it is still to be stored, and the snapshot
abbrev pub new_records : Undoing → List (List ℕ)
new_records u = option_to_list (version_due u.now.version) ++ undo_snapshot_text u ∷ []

-- ---- what they are worth

-- the payloads represent what there is now, in a store of either version
abbrev pub RepresentsNow : List (List ℕ) → Undoing → Type 0
RepresentsNow payloads u = (version : ℕ) × (stands payloads ≡ Ok (record u.now { version = version }))

-- The words act on the documents that there are now, and make those from before the last changes. These are consistent
-- with their complement, and with the new records behind the payloads they are what the store represents.
pub record TakesBack (held : List (List ℕ)) (u : Undoing) : Type 0 where
  pub words : BringsBack (left_type u.now.form) (right_type u.now.form) u.words u.now.triple u.before
  pub consistent : IsConsistent u.now.form u.before.left u.before.comp u.before.right
  pub stand : stands (held ++ new_records u) ≡ Ok (record u.now {
    triple =
        u.before;
    version = version_then u.now.version;
  })
