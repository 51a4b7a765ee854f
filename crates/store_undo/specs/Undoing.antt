-- What undoing the last changes of a store comes to, or why the store is refused.
-- Read it from the end: `undo_refusal`, `undoing`, then `last_changes`.
use Rattle.std.specs.Prelude.{ℕ, ◌-◌, List, [], ◌∷◌, length, take, drop, nat_lt, if◌then◌else◌, Option, Some, None}
use Rattle.std.specs.Prelude.{option_map, option_and_then, Result, Ok, Err}
use Rattle.edit_module.specs.Changes.{ChangeTree}
use Rattle.edit_journal.specs.EntryJson.{tree_of_text}
use Rattle.edit_session.specs.Step.{TripleTree}
use Rattle.lens_core.specs.Translation.{translate}
use Rattle.lens_forms.specs.Forms.{left_type, right_type}
use Rattle.store_records.specs.RecordJson.{change_in}
use Rattle.store_records.specs.declared.record_fault.RecordFault.{RecordFault}
use Rattle.store_records.specs.declared.record_fault.RecordFault.TheVariants as reopening
use Rattle.store_run.specs.declared.refusals.StoreRefusal.{StoreRefusal}
use Rattle.store_run.specs.declared.refusals.StoreRefusal.TheVariants.{BadRecord, NotConsistent, NothingToUndo}
use Rattle.store_session.specs.Stands.{Standing, stands}
use Rattle.edit_undo.specs.Undone.{BothTrees, undone}

-- ---- the last changes

-- the change of a payload
abbrev pub change_of : List ℕ → Option ChangeTree
change_of payload = option_and_then change_in (tree_of_text payload)

-- the changes of some payloads, if each is of a change
abbrev pub changes_of : List (List ℕ) → Option (List ChangeTree)
changes_of [] = Some []
changes_of (p ∷ ps) = option_and_then (λ c. option_map (λ cs. c ∷ cs) (changes_of ps)) (change_of p)

-- the last payloads, so many as the count says, and those before them
abbrev pub last_payloads : ℕ → List (List ℕ) → List (List ℕ)
last_payloads count held = drop (length held - count) held

abbrev pub payloads_before : ℕ → List (List ℕ) → List (List ℕ)
payloads_before count held = take (length held - count) held

-- the last changes, so many as the count says; there are none unless so many payloads are behind the first one, and all
-- are of changes
abbrev pub last_changes : ℕ → List (List ℕ) → Option (List ChangeTree)
last_changes count held = if nat_lt count (length held) then changes_of (last_payloads count held) else None

-- ---- what undoing comes to

-- what the payloads represent, the triple before the last changes, and the words that take its documents back to that
pub record Undoing : Type 0 where
  pub now : Standing
  pub before : TripleTree
  pub words : BothTrees

-- from what the payloads before these changes represent
abbrev pub undoing_from : Standing → List ChangeTree → Result Standing RecordFault → Option Undoing
undoing_from now changes (Ok was) =
    option_map (λ r. record { now = now; before = was.triple; words = r.1 })
    (undone (left_type now.form) (right_type now.form) (translate now.form) was.triple changes)
undoing_from now changes (Err fault) = None

abbrev pub undoing_of : ℕ → List (List ℕ) → Result Standing RecordFault → Option Undoing
undoing_of count held (Ok now) =
    option_and_then (λ changes. undoing_from now changes (stands (payloads_before count held)))
    (last_changes count held)
undoing_of count held (Err fault) = None

-- what undoing the last changes of these payloads comes to, so many as the count says
abbrev pub undoing : ℕ → List (List ℕ) → Option Undoing
undoing count held = undoing_of count held (stands held)

-- ---- refusals

-- payloads are refused that represent no session, and those that represent one if their last records are not so many
-- changes
abbrev pub refusal_of : Result Standing RecordFault → Option (List ChangeTree) → Option StoreRefusal
refusal_of (Ok now) (Some changes) = None
refusal_of (Ok now) None = Some NothingToUndo
refusal_of (Err (reopening.BadRecord number)) changes = Some (BadRecord number)
refusal_of (Err (reopening.NotConsistent number)) changes = Some (NotConsistent number)
refusal_of (Err reopening.NoMemory) changes = None

-- why these payloads are refused, if they are
abbrev pub undo_refusal : ℕ → List (List ℕ) → Option StoreRefusal
undo_refusal count held = refusal_of (stands held) (last_changes count held)
