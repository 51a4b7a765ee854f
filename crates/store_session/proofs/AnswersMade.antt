-- The answers that a call makes are those of the definition.
use Rattle.std.proofs.Common.{◌≡◌, ℕ, ◌≤◌, List, [], ◌∷◌, Option, Some, None, option_map, Result, Ok, Err, refl, sym, ap, subst, ◌∙◌}
use Rattle.std.specs.Prelude.{IfOk}
use Rattle.serde_json.specs.Data.{depth}
use Rattle.serde_json.specs.Read.{max_depth}
use Rattle.texts.specs.declared.side.Side.{Side}
use Rattle.texts.specs.Sides.{other}
use Rattle.doc_values.specs.Types.{height}
use Rattle.edit_module.specs.Changes.{one, group, carried_to}
use Rattle.edit_module.specs.Words.{WordTree}
use Rattle.edit_module.specs.declared.fault.Cause.{Cause}
use Rattle.edit_journal.specs.EntryJson.{LineFault, line_too_long, not_json, not_an_entry, not_an_edit}
use Rattle.edit_journal.specs.Reading.{cause_of, IsRefused}
use Rattle.edit_journal.specs.declared.fault.EntryFault.{EntryFault}
use Rattle.edit_journal.specs.declared.fault.EntryFault.TheVariants.{LineTooLong, NotJson, NotAnEntry, NotAnEdit, NoMemory}
use Rattle.edit_session.specs.Run.{answered, group_answered}
use Rattle.edit_session.specs.Step.{TripleTree, Stepped, AllStepped, step, step_each, alone}
use Rattle.answer_text.specs.Lines.{ok_line, no_apply_line, group_line, group_refused_line, fault_line}
use Rattle.run_answers.specs.ItemRuns.{JournalItem, JournalAnswer}
use Rattle.lens_core.specs.Translation.{translate}
use Rattle.lens_forms.specs.Forms.{FormTree, left_type, right_type}
use Rattle.lens_forms.specs.declared.limits.TheConstants.{GREATEST_HEIGHT}
use Rattle.store_records.specs.RecordJson.{tree_of_change_record}
use Rattle.store_run.specs.declared.session.StoredAnswer.{StoredAnswer}
use Rattle.store_session.proofs.AcceptedDepths.{accepted_low}
use Rattle.store_session.specs.StoredStates.{StoredState, state_with, change_text, stored_answer, answer_item}

-- an answer with this line and this payload
pub answer_is : (a : StoredAnswer) (line : List ℕ) (payload : Option (List ℕ)) → a.line ≡ line → a.payload ≡ payload → a ≡ record { line = line; payload = payload }
answer_is a line payload p q = rw (← p, ← q) refl

module _ (l : FormTree) (t : TripleTree) (n : ℕ) where
  -- the step of an entry, and of a group
  abbrev pub entry_step : Side × WordTree → Option Stepped
  entry_step e = step (left_type l) (right_type l) (translate l) t e

  abbrev pub group_step : List (Side × WordTree) → Option AllStepped
  group_step es = step_each (left_type l) (right_type l) (translate l) t es

  abbrev of_entry : Side × WordTree → Option Stepped → Option (StoredState × StoredAnswer)
  of_entry e o = option_map (λ (s : TripleTree × JournalAnswer). (state_with l s.0, stored_answer n (Ok (one e)) s.1)) (option_map (answered t e.0) o)

  abbrev of_group : List (Side × WordTree) → Option AllStepped → Option (StoredState × StoredAnswer)
  of_group es o = option_map (λ (s : TripleTree × JournalAnswer). (state_with l s.0, stored_answer n (Ok (group es)) s.1)) (option_map (group_answered t es) o)

  abbrev made : TripleTree → StoredAnswer → Option (StoredState × StoredAnswer)
  made u a = Some (state_with l u, a)

  pub entry_accepted : (e : Side × WordTree) (u : TripleTree) (w : WordTree) (a : StoredAnswer) → entry_step e ≡ Some (Ok (u, w))
      → a.line ≡ ok_line n (other e.0) w → a.payload ≡ Some (change_text (one e)) → answer_item (state_with l t) n (Ok (one e)) ≡ made u a
  entry_accepted e u w a h line payload = ap (of_entry e) h ∙ ap (made u) (sym (answer_is a (ok_line n (other e.0) w) (Some (change_text (one e))) line payload))

  pub entry_refused : (e : Side × WordTree) (at : ℕ) (cause : Cause) (a : StoredAnswer) → entry_step e ≡ Some (Err (at, cause))
      → a.line ≡ no_apply_line n at cause → a.payload ≡ None → answer_item (state_with l t) n (Ok (one e)) ≡ made t a
  entry_refused e at cause a h line payload = ap (of_entry e) h ∙ ap (made t) (sym (answer_is a (no_apply_line n at cause) None line payload))

  pub group_accepted : (es : List (Side × WordTree)) (u : TripleTree) (ws : List WordTree) (a : StoredAnswer) → group_step es ≡ Some (Ok (u, ws))
      → a.line ≡ group_line n (carried_to es ws) → a.payload ≡ Some (change_text (group es)) → answer_item (state_with l t) n (Ok (group es)) ≡ made u a
  group_accepted es u ws a h line payload = ap (of_group es) h ∙ ap (made u) (sym (answer_is a (group_line n (carried_to es ws)) (Some (change_text (group es))) line payload))

  pub group_refused : (es : List (Side × WordTree)) (part at : ℕ) (cause : Cause) (a : StoredAnswer) → group_step es ≡ Some (Err (part, (at, cause)))
      → a.line ≡ group_refused_line n part at cause → a.payload ≡ None → answer_item (state_with l t) n (Ok (group es)) ≡ made t a
  group_refused es part at cause a h line payload = ap (of_group es) h ∙ ap (made t) (sym (answer_is a (group_refused_line n part at cause) None line payload))

  of_cause : (item : JournalItem) (cause : LineFault) (a : StoredAnswer) → item ≡ Err cause → a.line ≡ fault_line n cause → a.payload ≡ None
      → answer_item (state_with l t) n item ≡ made t a
  of_cause item cause a e line payload =
      ap (answer_item (state_with l t) n) e ∙ ap (made t) (sym (answer_is a (fault_line n cause) None line payload))

  -- a line that is not a change
  pub fault_refused : (item : JournalItem) (fault : EntryFault) (a : StoredAnswer) → (fault ≡ NoMemory → ⊥) → IsRefused (cause_of fault) item
      → ((cause : LineFault) → cause_of fault ≡ Some cause → a.line ≡ fault_line n cause) → a.payload ≡ None
      → answer_item (state_with l t) n item ≡ made t a
  fault_refused item LineTooLong a known refused line payload = of_cause item line_too_long a refused (line line_too_long refl) payload
  fault_refused item NotJson a known refused line payload = of_cause item not_json a refused (line not_json refl) payload
  fault_refused item NotAnEntry a known refused line payload = of_cause item not_an_entry a refused (line not_an_entry refl) payload
  fault_refused item NotAnEdit a known refused line payload = of_cause item not_an_edit a refused (line not_an_edit refl) payload
  fault_refused item NoMemory a known refused line payload = absurd (known refl)

  -- the record of a change that was accepted is read back
  pub entry_low : (e : Side × WordTree) (u : TripleTree) (w : WordTree) → height (left_type l) ≤ GREATEST_HEIGHT → height (right_type l) ≤ GREATEST_HEIGHT
      → entry_step e ≡ Some (Ok (u, w)) → depth (tree_of_change_record (one e)) ≤ max_depth
  entry_low e u w low_left low_right h = accepted_low l t u (one e) (w ∷ []) low_left low_right (ap (option_map alone) h)

  pub group_low : (es : List (Side × WordTree)) (u : TripleTree) (ws : List WordTree) → height (left_type l) ≤ GREATEST_HEIGHT → height (right_type l) ≤ GREATEST_HEIGHT
      → group_step es ≡ Some (Ok (u, ws)) → depth (tree_of_change_record (group es)) ≤ max_depth
  group_low es u ws low_left low_right h = accepted_low l t u (group es) ws low_left low_right h

-- what holds of an item holds of the same
pub of_item : {E : Type 0} (r : Result StoredAnswer E) (item x : JournalItem) (P : JournalItem → StoredAnswer → Type 0) → item ≡ x → IfOk r (P x) → IfOk r (P item)
of_item r item x P e h = subst (λ i. IfOk r (P i)) (sym e) h
