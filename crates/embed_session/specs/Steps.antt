-- What a line makes of a session. Read it from the end: `IsLineStep`, `IsItemStep`, then `Answers` and `outcome_of`.
use Rattle.std.specs.Prelude.{◌≡◌, ℕ, ◌+◌, ◌==◌, List, [], Bool, true, false, None, Some}
use Rattle.std.specs.List.{list_any}
use Rattle.edit_journal.specs.EntryJson.{LineFault, line_too_long, not_json, not_an_entry, not_an_edit, change_of_line}
use Rattle.edit_journal.specs.Lines.{line_of, is_blank}
use Rattle.edit_journal.specs.declared.fault.EntryFault.{EntryFault}
use Rattle.edit_journal.specs.declared.fault.EntryFault.TheVariants.{LineTooLong, NotJson, NotAnEntry, NotAnEdit}
use Rattle.edit_journal.specs.declared.line.Line.{Line}
use Rattle.edit_session.specs.Run.{take_item, carried, no_apply, group_carried, group_no_apply, no_entry}
use Rattle.edit_session.specs.Sessions.{SessionOf}
use Rattle.edit_session.specs.Views.{triple_tree}
use Rattle.run_answers.specs.Answers.{answer_line}
use Rattle.run_answers.specs.ItemRuns.{JournalAnswer, IsInStepFor}
use Rattle.lens_core.specs.Translation.{translate}
use Rattle.lens_flat.specs.declared.flat.ReadyForm.{ReadyForm}
use Rattle.lens_forms.specs.Forms.{FormTree, form_tree, left_type, right_type}
use Rattle.embed_session.specs.Changes.{IsRemembered}
use Rattle.embed_session.specs.declared.outcome.Outcome.{Outcome}
use Rattle.embed_session.specs.declared.outcome.Outcome.TheVariants as outcome
use Rattle.embed_session.specs.declared.running.Running.{Running}

-- the form of a session's lens
abbrev pub session_form : SessionOf ReadyForm → FormTree
session_form s = form_tree s.lens.typed

abbrev pub form_of : Running → FormTree
form_of r = session_form r.session

-- a byte of the line is an LF
abbrev pub has_line_feed : List ℕ → Bool
has_line_feed line = list_any (λ byte. byte == 10) line

-- ---- how a step ends

abbrev pub fault_of : LineFault → EntryFault
fault_of line_too_long = LineTooLong
fault_of not_json = NotJson
fault_of not_an_entry = NotAnEntry
fault_of not_an_edit = NotAnEdit

-- the outcome of a step with this answer
abbrev pub outcome_of : JournalAnswer → Outcome
outcome_of (carried side w) = outcome.Done
outcome_of (group_carried words) = outcome.Done
outcome_of (no_apply at cause) = outcome.NoApply 0 at cause
outcome_of (group_no_apply part at cause) = outcome.NoApply part at cause
outcome_of (no_entry fault) = outcome.NotAChange (fault_of fault)

-- ---- an item

-- The item of this line takes the one session to the other. It is answered with this number by this text, and the step
-- ends so.
pub record Answers (before : SessionOf ReadyForm) (number : ℕ) (line : Line) (text : List ℕ) (end : Outcome)
    (after : SessionOf ReadyForm) : Type 0 where
  pub answer : JournalAnswer
  pub step : take_item (left_type (session_form before)) (right_type (session_form before))
      (translate (session_form before)) (triple_tree before.triple) (change_of_line line)
      ≡ Some (triple_tree after.triple, answer)
  pub is_text : text ≡ answer_line number answer
  pub ended : end ≡ outcome_of answer

-- The line is an item with the next number, its answer line is the text, and it is remembered if it was accepted. The triple
-- after it is in step, as the one before it was.
pub record IsItemStep (before : Running) (line : Line) (end : Outcome) (after : Running) : Type 0 where
  pub lens : after.session.lens ≡ before.session.lens
  pub was_in_step : IsInStepFor (form_of before) (triple_tree before.session.triple)
  pub in_step : IsInStepFor (form_of after) (triple_tree after.session.triple)
  pub number : after.number ≡ before.number + 1
  pub answers : Answers before.session after.number line after.text.items end after.session
  pub accepted : IsRemembered (triple_tree before.session.triple) line end after.accepted

-- the line is blank, there is no text, and no line was accepted last
pub record IsBlankStep (before : Running) (end : Outcome) (after : Running) : Type 0 where
  pub session : after.session ≡ before.session
  pub number : after.number ≡ before.number
  pub text : after.text.items ≡ []
  pub accepted : after.accepted ≡ None
  pub ended : end ≡ outcome.Blank

abbrev pub line_step : Bool → Running → Line → Outcome → Running → Type 0
line_step true before line end after = IsBlankStep before end after
line_step false before line end after = IsItemStep before line end after

-- what a line of these bytes makes of a session: it is blank, or it is an item
abbrev pub IsLineStep : Running → List ℕ → Outcome → Running → Type 0
IsLineStep before bytes end after = line_step (is_blank (line_of bytes)) before (line_of bytes) end after

-- the lens, the documents, the complement, the number, the text and the last change are those from before
pub record IsAsBefore (before after : Running) : Type 0 where
  pub lens : after.session.lens ≡ before.session.lens
  pub triple : triple_tree after.session.triple ≡ triple_tree before.session.triple
  pub number : after.number ≡ before.number
  pub text : after.text ≡ before.text
  pub accepted : after.accepted ≡ before.accepted
