-- The run of the command `run` over the lines of a script: its first documents, what a line makes of the documents and
-- the complement, what is written of the last ones, and what holds of all of them. A state of the run is a triple with
-- the form of its lens. Read it from the end: `IsPairInStep`, `pair_state_text`, `line_answer`, then `first_pair`.
use Rattle.std.specs.Prelude.{◌≡◌, ℕ, List, Option, option_map}
use Rattle.edit_journal.specs.EntryJson.{change_of_line}
use Rattle.edit_journal.specs.declared.line.Line.{Line}
use Rattle.edit_session.specs.Run.{is_refused, take_item}
use Rattle.edit_session.specs.Sessions.{SessionOf}
use Rattle.edit_session.specs.Step.{TripleTree}
use Rattle.edit_session.specs.Views.{triple_tree}
use Rattle.run_answers.specs.Answers.{answer_line, state_lines}
use Rattle.run_answers.specs.ItemRuns.{JournalAnswer, IsInStepFor, triple_at_first}
use Rattle.lens_core.specs.Translation.{translate}
use Rattle.lens_flat.specs.declared.flat.ReadyForm.{ReadyForm}
use Rattle.lens_forms.specs.Forms.{FormTree, form_tree, left_type, right_type}
use Rattle.run_scripts.specs.Answers.{Answer}

-- the initial documents of a lens, with its missing complement
abbrev pub first_pair : FormTree → FormTree × TripleTree
first_pair form = (form, triple_at_first form)

-- the triple after the item with this number, and its answer line; the lens stays
abbrev pub numbered : FormTree → ℕ → TripleTree × JournalAnswer → (FormTree × TripleTree) × Answer
numbered form n step = ((form, step.0), record { line = answer_line n step.1; refused = is_refused step.1 })

-- What the item with this number makes of a triple: the change of the line steps it; a change that does not apply, and
-- a line that is not a change, leave it as it was.
abbrev pub line_answer : FormTree × TripleTree → ℕ → Line → Option ((FormTree × TripleTree) × Answer)
line_answer s n line =
    option_map (numbered s.0 n) (take_item (left_type s.0) (right_type s.0) (translate s.0) s.1 (change_of_line line))

-- the state lines: `left JSON`, `right JSON` and `complement JSON`
abbrev pub pair_state_text : FormTree × TripleTree → List ℕ
pair_state_text s = state_lines s.0 s.1

-- A state of a run of the lens of this form: the documents and the complement are in the lens's consistency relation.
pub record IsPairInStep (form : FormTree) (s : FormTree × TripleTree) : Type 0 where
  pub lens : s.0 ≡ form
  pub in_step : IsInStepFor form s.1

-- the state of a session of a compiled lens
abbrev pub pair_state_of : SessionOf ReadyForm → FormTree × TripleTree
pair_state_of s = (form_tree s.lens.typed, triple_tree s.triple)
