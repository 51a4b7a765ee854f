-- The run of the command `link` over the lines of a script: its first link, what a line makes of a link, what is
-- written of the last one, and what holds of every link of a run. A state of the run is a link with the form of its
-- lens. Read it from the end: `IsInTurnsWith`, `link_state_text`, `link_line_answer`, then `first_link`.
use Rattle.std.specs.Prelude.{◌≡◌, ℕ, List, [], Option, None, Some, option_map}
use Rattle.edit_journal.specs.declared.line.Line.{Line}
use Rattle.lens_forms.specs.Forms.{FormTree, left_type, right_type, form_tree}
use Rattle.lens_core.specs.Complements.{missing}
use Rattle.lens_core.specs.Consistency.{IsConsistent}
use Rattle.lens_core.specs.Translation.{translate}
use Rattle.lens_flat.specs.declared.flat.ReadyForm.{ReadyForm}
use Rattle.run_scripts.specs.Answers.{Answer}
use Rattle.turn_link.specs.Links.{LinkTree, link_start}
use Rattle.turn_link.specs.Laws.{IsLinked}
use Rattle.turn_link.specs.LinkViews.{LinkOf, link_tree}
use Rattle.run_link.specs.EventJson.{event_of_line}
use Rattle.run_link.specs.Items.{LinkAnswerTree, take_link_item, is_refused_by_link}
use Rattle.run_link.specs.Answers.{link_answer_line, link_state_lines}

-- the link of the lens of a form before any event
abbrev pub first_link : FormTree → FormTree × LinkTree
first_link form = (form, link_start)

-- the link after the item with this number, and its answer line; the lens stays
abbrev pub link_numbered : FormTree → ℕ → LinkTree × LinkAnswerTree → (FormTree × LinkTree) × Answer
link_numbered form n step =
    ((form, step.0), record { line = link_answer_line n step.1; refused = is_refused_by_link step.1 })

-- what the item with this number makes of a link: the event of the line happens to it, or the line is refused
abbrev pub link_line_answer : FormTree × LinkTree → ℕ → Line → Option ((FormTree × LinkTree) × Answer)
link_line_answer s n line =
    option_map (link_numbered s.0 n) (take_link_item (left_type s.0) (right_type s.0) (missing s.0) (translate s.0) s.1
    (event_of_line line))

abbrev pub text_or_none : Option (List ℕ) → List ℕ
text_or_none (Some text) = text
text_or_none None = []

-- the state lines of a link; every link of a run has them
abbrev pub link_state_text : FormTree × LinkTree → List ℕ
link_state_text s = text_or_none (link_state_lines s.0 s.1)

-- a link of the lens of a form that is in turns, by `turns`, with all its parts together
abbrev pub IsFormLink : FormTree → LinkTree → Type 0
IsFormLink form s = IsLinked (IsConsistent form) (left_type form) (right_type form) (missing form) (translate form) s

-- A link of a run of the lens of this form: it is in turns, and it has state lines.
pub record IsInTurnsWith (form : FormTree) (s : FormTree × LinkTree) : Type 0 where
  pub lens : s.0 ≡ form
  pub linked : IsFormLink form s.1
  pub text : List ℕ
  pub shown : link_state_lines form s.1 ≡ Some text

-- the state of a link of a compiled lens
abbrev pub link_state_of : LinkOf ReadyForm → FormTree × LinkTree
link_state_of s = (form_tree s.left.lens.typed, link_tree s)
