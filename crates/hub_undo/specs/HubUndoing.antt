-- What undoing the last changes of the store of a hub comes to, or why the store is refused.
-- Read it from the end: `hub_undo_refusal`, `HubTakesBack`, `RepresentsNow`, `hub_undoing`, then `last_hub_changes`.
use Rattle.std.specs.Prelude.{◌≡◌, ℕ, ◌+◌, ◌-◌, List, [], ◌∷◌, ◌++◌, length, drop, nat_lt, if◌then◌else◌, codes}
use Rattle.std.specs.Prelude.{decimal, Option, Some, None, option_map, option_and_then, Result, Ok, Err}
use Rattle.serde_json.specs.Written.{compact_text}
use Rattle.answer_text.specs.Lines.{tree_line}
use Rattle.edit_json.specs.WordJson.{tree_of_word}
use Rattle.edit_journal.specs.EntryJson.{tree_of_text}
use Rattle.edit_module.specs.Words.{WordTree}
use Rattle.view_hub.specs.Hubs.{HubTree, Place, CarriedTree}
use Rattle.view_hub.specs.Laws.{IsHub}
use Rattle.hub_run.specs.FormLenses.{form_lens}
use Rattle.hub_run.specs.Runs.{hub_state_lines}
use Rattle.hub_records.specs.HubChanges.{HubChangeTree, edits_of}
use Rattle.hub_records.specs.HubRecords.{hub_change_in, tree_of_hub_snapshot}
use Rattle.hub_records.specs.HubStands.{HubStanding, stands_as_hub}
use Rattle.store_records.specs.declared.record_fault.RecordFault.{RecordFault}
use Rattle.store_records.specs.declared.record_fault.RecordFault.TheVariants as reopening
use Rattle.store_run.specs.declared.refusals.StoreRefusal.{StoreRefusal}
use Rattle.store_run.specs.declared.refusals.StoreRefusal.TheVariants.{BadRecord, NotConsistent, NothingToUndo}
use Rattle.store_undo.specs.Undoing.{payloads_before}
use Rattle.hub_undo.specs.HubUndone.{HubBringsBack, hub_undone}

-- ---- the last changes

-- the change of a payload
abbrev pub hub_change_of : List ℕ → Option HubChangeTree
hub_change_of payload = option_and_then hub_change_in (tree_of_text payload)

-- the changes of some payloads, if each is of a change
abbrev pub hub_changes_of : List (List ℕ) → Option (List HubChangeTree)
hub_changes_of [] = Some []
hub_changes_of (p ∷ ps) = option_and_then (λ c. option_map (λ cs. c ∷ cs) (hub_changes_of ps)) (hub_change_of p)

-- the last changes, so many as the count says; there are none unless so many payloads are behind the first one, and all
-- are of changes
abbrev pub last_hub_changes : ℕ → List (List ℕ) → Option (List HubChangeTree)
last_hub_changes count held =
    if nat_lt count (length held) then hub_changes_of (drop (length held - count) held) else None

-- the edits of some changes, in order
abbrev pub edits_of_all : List HubChangeTree → List (Place × WordTree)
edits_of_all [] = []
edits_of_all (c ∷ cs) = edits_of c ++ edits_of_all cs

-- ---- what undoing comes to

-- what the payloads represent, the hub before the last changes, and the words that take its documents back to that
pub record HubUndoing : Type 0 where
  pub now : HubStanding
  pub before : HubTree
  pub words : CarriedTree

-- from what the payloads before these changes represent
abbrev pub hub_undoing_from : HubStanding → List HubChangeTree → Result HubStanding RecordFault → Option HubUndoing
hub_undoing_from now changes (Ok was) =
    option_map (λ r. record { now = now; before = was.hub; words = r.1 })
    (hub_undone form_lens was.forms was.hub (edits_of_all changes))
hub_undoing_from now changes (Err fault) = None

abbrev pub hub_undoing_of : ℕ → List (List ℕ) → Result HubStanding RecordFault → Option HubUndoing
hub_undoing_of count held (Ok now) =
    option_and_then (λ changes. hub_undoing_from now changes (stands_as_hub (payloads_before count held)))
    (last_hub_changes count held)
hub_undoing_of count held (Err fault) = None

-- what undoing the last changes of these payloads comes to, so many as the count says
abbrev pub hub_undoing : ℕ → List (List ℕ) → Option HubUndoing
hub_undoing count held = hub_undoing_of count held (stands_as_hub held)

-- ---- what is stored and written

-- the payload of the snapshot of the hub before the last changes
abbrev pub hub_undo_snapshot_text : HubUndoing → List ℕ
hub_undo_snapshot_text u = compact_text (tree_of_hub_snapshot u.now.forms u.before)

-- `undo view V WORD` for each view, numbered on from this number
abbrev pub view_undo_lines : ℕ → List WordTree → List ℕ
view_undo_lines v [] = []
view_undo_lines v (w ∷ ws) =
    tree_line (codes "undo view " ++ decimal v) (tree_of_word w) ++ view_undo_lines (v + 1) ws

-- `undo hub WORD`, and the line of each view
abbrev pub words_text : CarriedTree → List ℕ
words_text c = tree_line (codes "undo hub") (tree_of_word c.hub) ++ view_undo_lines 0 c.views

-- these lines, and the state lines of the hub before the last changes
abbrev pub hub_undo_text : HubUndoing → List ℕ
hub_undo_text u = words_text u.words ++ hub_state_lines u.now.forms u.before

-- the payloads represent the hub that there is now
abbrev pub RepresentsNow : List (List ℕ) → HubUndoing → Type 0
RepresentsNow payloads u = stands_as_hub payloads ≡ Ok u.now

-- The words act on the documents that there are now, and make those from before the last changes. That hub is in step,
-- and with the snapshot behind the payloads it is what the store represents.
pub record HubTakesBack (held : List (List ℕ)) (u : HubUndoing) : Type 0 where
  pub words : HubBringsBack form_lens u.now.forms u.words u.now.hub u.before
  pub in_step : IsHub form_lens u.now.forms u.before
  pub stand : stands_as_hub (held ++ hub_undo_snapshot_text u ∷ []) ≡ Ok (record u.now { hub = u.before })

-- ---- refusals

-- payloads are refused that represent no hub, and those that represent one if their last records are not so many
-- changes
abbrev pub hub_refusal_of : Result HubStanding RecordFault → Option (List HubChangeTree) → Option StoreRefusal
hub_refusal_of (Ok now) (Some changes) = None
hub_refusal_of (Ok now) None = Some NothingToUndo
hub_refusal_of (Err (reopening.BadRecord number)) changes = Some (BadRecord number)
hub_refusal_of (Err (reopening.NotConsistent number)) changes = Some (NotConsistent number)
hub_refusal_of (Err reopening.NoMemory) changes = None

-- why these payloads are refused, if they are
abbrev pub hub_undo_refusal : ℕ → List (List ℕ) → Option StoreRefusal
hub_undo_refusal count held = hub_refusal_of (stands_as_hub held) (last_hub_changes count held)
