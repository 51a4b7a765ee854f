-- For the helpers of `undo`: what is opened and what is made before anything is stored. Read it from the end:
-- `IsMade`, `AreTexts`, `UndoneBy`, then `StoodTwice`.
use Rattle.std.specs.Prelude.{◌≡◌, ℕ, List, ◌++◌, length, map, take, Ok, Some, None, true}
use Rattle.serde_json.specs.Written.{compact_text}
use Rattle.edit_journal.specs.EntryJson.{tree_of_text}
use Rattle.lens_forms.specs.Forms.{FormTree}
use Rattle.store_undo.specs.Making.{kept_before}
use Rattle.view_hub.specs.Hubs.{HubTree, CarriedTree}
use Rattle.view_hub.specs.Views.{hub_tree}
use Rattle.hub_run.specs.FormLenses.{form_lens}
use Rattle.hub_run.specs.Runs.{hub_state_lines}
use Rattle.hub_records.specs.HubChanges.{HubChangeTree}
use Rattle.hub_records.specs.HubRecords.{tree_of_hub_snapshot}
use Rattle.hub_records.specs.HubStands.{HubStanding, stands_as_hub}
use Rattle.hub_records.specs.Views.{hub_change_tree, hub_standing}
use Rattle.hub_records.specs.WholeInts.{hub_holds_i64s}
use Rattle.hub_records.specs.declared.change.HubChange.{HubChange}
use Rattle.store_run.specs.Making as making
use Rattle.store_run.specs.declared.undo_session.Making.{Making}
use Rattle.hub_undo.specs.HubUndone.{HubBringsBack, hub_undone}
use Rattle.hub_undo.specs.HubUndoing.{HubTakesBack, edits_of_all, hub_undo_snapshot_text, hub_undo_text}
use Rattle.hub_undo.specs.HubUndoing.{hub_undoing}
use Rattle.hub_undo.specs.HubUndoing.{words_text}
use Rattle.hub_undo.specs.declared.making.OpenedTwice.{OpenedTwice}

-- the trees of changes, in order
abbrev pub change_trees : List HubChange → List HubChangeTree
change_trees cs = map hub_change_tree cs

-- What was opened is the hub that the payloads represent, and the parts that those before the last ones represent.
pub record StoodTwice (count : ℕ) (held : List (List ℕ)) (twice : OpenedTwice) : Type 0 where
  pub now : stands_as_hub held ≡ Ok (hub_standing twice.opened.hub twice.opened.count)
  pub was : HubStanding
  pub before : stands_as_hub (take (kept_before count (length held)) held) ≡ Ok was
  pub hub : was.hub ≡ hub_tree twice.earlier

-- the hub after these changes of a hub, and the words that take them back
abbrev pub UndoneBy : List FormTree → HubTree → List HubChangeTree → HubTree × CarriedTree → Type 0
UndoneBy forms h changes r = hub_undone form_lens forms h (edits_of_all changes) ≡ Some r

-- The texts are the snapshot of a hub, which reads as its tree, and the lines of the words that were found with its
-- state lines. The words take it back, and its ints are i64.
pub record AreTexts (forms : List FormTree) (h : HubTree) (r : HubTree × CarriedTree)
    (payload lines : List ℕ) : Type 0 where
  pub snapshot : payload ≡ compact_text (tree_of_hub_snapshot forms h)
  pub reads : tree_of_text payload ≡ Some (tree_of_hub_snapshot forms h)
  pub written : lines ≡ words_text r.1 ++ hub_state_lines forms h
  pub back : HubBringsBack form_lens forms r.1 r.0 h
  pub whole : hub_holds_i64s h ≡ true

-- what is made is what undoing the last changes of these payloads stores and writes; there is no version record
abbrev pub IsMade : ℕ → List (List ℕ) → Making → Type 0
IsMade count held made =
    making.IsMade (hub_undoing count held) (λ _. None) hub_undo_snapshot_text hub_undo_text (HubTakesBack held) made
