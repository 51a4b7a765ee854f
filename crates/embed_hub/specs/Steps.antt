-- What a line makes of a hub. Read it from the end: `IsLineStep`, `IsItemStep`, then `Answers` and `EndsWith`.
use Rattle.std.specs.Prelude.{◌≡◌, ℕ, ◌+◌, List, [], Bool, true, false, Some}
use Rattle.edit_journal.specs.Lines.{line_of, is_blank}
use Rattle.edit_journal.specs.Reading.{cause_of}
use Rattle.edit_journal.specs.declared.fault.EntryFault.{EntryFault}
use Rattle.edit_journal.specs.declared.line.Line.{Line}
use Rattle.lens_flat.specs.declared.flat.ReadyForm.{ReadyForm}
use Rattle.lens_forms.specs.Forms.{FormTree}
use Rattle.view_hub.specs.Views.{HubOf, hub_tree}
use Rattle.hub_run.specs.Answers.{HubAnswerTree, carried, no_view, no_apply, no_edit, hub_answer_line}
use Rattle.hub_run.specs.EditJson.{edit_of_line}
use Rattle.hub_run.specs.FormLenses.{form_lens}
use Rattle.hub_run.specs.RunStates.{forms_of_lenses, hub_state_of}
use Rattle.hub_run.specs.Runs.{HubState, IsHubInStep, take_hub_item}
use Rattle.embed_hub.specs.declared.outcome.HubOutcome.{HubOutcome}
use Rattle.embed_hub.specs.declared.outcome.HubOutcome.TheVariants as outcome
use Rattle.embed_hub.specs.declared.running.RunningHub.{RunningHub}

-- the forms of the views' lenses, and the hub with its views
abbrev pub hub_state : RunningHub → HubState
hub_state r = hub_state_of r.hub

abbrev pub forms_of : RunningHub → List FormTree
forms_of r = forms_of_lenses r.hub.lenses

-- each view's complement and document are in its lens's consistency relation with the hub's document
abbrev pub StaysInStep : HubOf ReadyForm → Type 0
StaysInStep h = IsHubInStep (forms_of_lenses h.lenses) (hub_state_of h)

-- ---- an item

-- a step with this answer ends so
abbrev pub EndsWith : HubAnswerTree → HubOutcome → Type 0
EndsWith (carried words) end = end ≡ outcome.Done
EndsWith no_view end = end ≡ outcome.NoView
EndsWith (no_apply at cause) end = end ≡ outcome.NoApply at cause
EndsWith (no_edit why) end = (fault : EntryFault) × (end ≡ outcome.NotAnEdit fault) × (cause_of fault ≡ Some why)

-- The item of this line takes the one hub to the other, of the same lenses and in step. It is answered with this number
-- by this text, and the step ends so.
pub record Answers (before : HubOf ReadyForm) (number : ℕ) (line : Line) (text : List ℕ) (end : HubOutcome)
    (after : HubOf ReadyForm) : Type 0 where
  pub answer : HubAnswerTree
  pub step : take_hub_item form_lens (forms_of_lenses before.lenses) (hub_tree before.parts) (edit_of_line line)
      ≡ Some (hub_tree after.parts, answer)
  pub lenses : after.lenses ≡ before.lenses
  pub is_text : text ≡ hub_answer_line number answer
  pub ended : EndsWith answer end
  pub in_step : StaysInStep after

-- the line is an item with the next number, and its answer line is the text
pub record IsItemStep (before : RunningHub) (line : Line) (end : HubOutcome) (after : RunningHub) : Type 0 where
  pub number : after.number ≡ before.number + 1
  pub answers : Answers before.hub after.number line after.text.items end after.hub

-- the line is blank, and there is no text
pub record IsBlankStep (before : RunningHub) (end : HubOutcome) (after : RunningHub) : Type 0 where
  pub hub : after.hub ≡ before.hub
  pub number : after.number ≡ before.number
  pub text : after.text.items ≡ []
  pub ended : end ≡ outcome.Blank

abbrev pub line_step : Bool → RunningHub → Line → HubOutcome → RunningHub → Type 0
line_step true before line end after = IsBlankStep before end after
line_step false before line end after = IsItemStep before line end after

-- what a line of these bytes makes of a hub: it is blank, or it is an item
abbrev pub IsLineStep : RunningHub → List ℕ → HubOutcome → RunningHub → Type 0
IsLineStep before bytes end after = line_step (is_blank (line_of bytes)) before (line_of bytes) end after

-- the lenses, the documents, the complements, the number and the text are those from before
pub record IsAsBefore (before after : RunningHub) : Type 0 where
  pub state : hub_state after ≡ hub_state before
  pub number : after.number ≡ before.number
  pub text : after.text ≡ before.text
