-- For the helpers of `undo`: what is opened and what is made before anything is stored. Read it from the end:
-- `fault_of`, `IsMade`, `AreTexts`, `UndoneBy`, then `StoodTwice`.
use Rattle.std.specs.Prelude.{◌≡◌, ℕ, ◌-◌, List, ◌++◌, length, take, codes, nat_lt, if◌then◌else◌, Some, Ok}
use Rattle.edit_json.specs.WordJson.{tree_of_word}
use Rattle.answer_text.specs.Lines.{tree_line}
use Rattle.run_answers.specs.Answers.{state_lines}
use Rattle.edit_module.specs.Changes.{ChangeTree}
use Rattle.lens_core.specs.Consistency.{IsConsistent}
use Rattle.lens_core.specs.Translation.{translate}
use Rattle.lens_forms.specs.Forms.{FormTree, form_tree, left_type, right_type}
use Rattle.edit_session.specs.Step.{TripleTree, IsInStep}
use Rattle.edit_session.specs.Views.{triple_tree}
use Rattle.store_records.specs.declared.record_fault.RecordFault.{RecordFault}
use Rattle.store_records.specs.declared.record_fault.RecordFault.TheVariants as reopening
use Rattle.store_session.specs.Stands.{Standing, stands}
use Rattle.store_session.specs.Standings.{standing}
use Rattle.store_session.specs.StoredStates.{HasSnapshot, state_with}
use Rattle.store_session.specs.StoredStates as states
use Rattle.store_run.specs.declared.refusals.StoreRefusal.TheVariants.{BadRecord, NotConsistent}
use Rattle.store_run.specs.Making as making
use Rattle.store_run.specs.declared.undo_session.Making.{Making}
use Rattle.store_run.specs.declared.undo_session.MakingFault.{MakingFault}
use Rattle.store_run.specs.declared.undo_session.MakingFault.TheVariants.{Refused, NoMemory}
use Rattle.store_undo.specs.Undoing.{undoing}
use Rattle.store_undo.specs.UndoRecords.{undo_text, version_due, undo_snapshot_text, TakesBack}
use Rattle.store_undo.specs.declared.opening.OpenedTwice.{OpenedTwice}
use Rattle.store_run.specs.declared.storing.MoreText.{MoreText}
use Rattle.edit_undo.specs.Undone.{BothTrees, undone}

-- how many payloads are before the last ones; all, unless so many are behind the first one
abbrev pub kept_before : ℕ → ℕ → ℕ
kept_before count all = if nat_lt count all then all - count else all

-- What was opened is the session that the payloads represent, and the triple that those before the last ones represent.
pub record StoodTwice (count : ℕ) (held : List (List ℕ)) (twice : OpenedTwice) : Type 0 where
  pub now : stands held
      ≡ Ok (standing (form_tree twice.opened.session.lens.typed)
      (triple_tree twice.opened.session.triple) twice.opened.count twice.opened.version)
  pub was : Standing
  pub before : stands (take (kept_before count (length held)) held) ≡ Ok was
  pub form : was.form ≡ form_tree twice.opened.session.lens.typed
  pub triple : was.triple ≡ triple_tree twice.earlier
  pub in_step : IsInStep (IsConsistent (form_tree twice.opened.session.lens.typed)) (triple_tree twice.earlier)

-- the triple after these changes of a triple, and the words that take them back
abbrev pub UndoneBy : FormTree → TripleTree → List ChangeTree → TripleTree × BothTrees → Type 0
UndoneBy l t changes r = undone (left_type l) (right_type l) (translate l) t changes ≡ Some r

-- the texts are the snapshot of a triple, and the lines of the two words with the state lines of the triple
pub record AreTexts (l : FormTree) (t : TripleTree) (words : BothTrees) (made : MoreText) : Type 0 where
  pub snapshot : made.payload ≡ states.snapshot_text (state_with l t)
  pub has : HasSnapshot (state_with l t)
  pub lines : made.lines ≡ tree_line (codes "undo left") (tree_of_word words.left)
      ++ (tree_line (codes "undo right") (tree_of_word words.right) ++ state_lines l t)

-- what is made is what undoing the last changes of these payloads stores and writes
abbrev pub IsMade : ℕ → List (List ℕ) → Making → Type 0
IsMade count held made =
    making.IsMade (undoing count held) (λ u. version_due u.now.version) undo_snapshot_text undo_text (TakesBack held)
    made

-- the fault of a reopening in these words
abbrev pub fault_of : RecordFault → MakingFault
fault_of (reopening.BadRecord number) = Refused (BadRecord number)
fault_of (reopening.NotConsistent number) = Refused (NotConsistent number)
fault_of reopening.NoMemory = NoMemory
