-- A journal that is given line by line. Read it from the end: `IsSameState`, `IsReported`, then `IsGiven`.
use Rattle.std.specs.Prelude.{◌≡◌, ℕ, List, [], ◌∷◌, ◌++◌, Bool, true, false, Some, Ok, map}
use Rattle.program_accepted.specs.Program.{lens_of}
use Rattle.edit_journal.specs.Lines.{line_of}
use Rattle.edit_session.specs.Step.{TripleTree}
use Rattle.edit_session.specs.Views.{triple_tree}
use Rattle.run_answers.specs.Answers.{text_from}
use Rattle.run_answers.specs.ItemRuns.{JournalAnswer, items_of, run_of, triple_at_first}
use Rattle.lens_forms.specs.Forms.{FormTree}
use Rattle.embed_session.specs.Embedded.{IsStepped, text_of}
use Rattle.embed_session.specs.Steps.{form_of}
use Rattle.embed_session.specs.declared.embedded.EmbeddedSession.{EmbeddedSession}
use Rattle.embed_session.specs.declared.embedded.EmbeddedSession.TheVariants as embedded
use Rattle.embed_session.specs.declared.outcome.Outcome.{Outcome}
use Rattle.embed_session.specs.declared.outcome.Outcome.TheVariants as outcome

-- the line was taken: it was answered, or it is blank
abbrev pub is_taken : Outcome → Bool
is_taken outcome.LineFeed = false
is_taken outcome.Full = false
is_taken outcome.NoChange = false
is_taken outcome.NoMemory = false
is_taken outcome.NoSession = false
is_taken end = true

-- one line was given and taken, with this text, and then the others
pub record IsGivenFirst (before : EmbeddedSession) (line : List ℕ) (texts : List ℕ) (others : EmbeddedSession → List ℕ
    → Type 0) : Type 0 where
  pub next : EmbeddedSession
  pub end : Outcome
  pub rest : List ℕ
  pub stepped : IsStepped before line end next
  pub taken : is_taken end ≡ true
  pub is_texts : texts ≡ text_of next ++ rest
  pub others_given : others next rest

-- these lines were given one after another, each was taken, and these are their texts, one after another
abbrev pub IsGiven : EmbeddedSession → List (List ℕ) → List ℕ → EmbeddedSession → Type 0
IsGiven before [] texts after = (texts ≡ []) × (after ≡ before)
IsGiven before (line ∷ lines) texts after = IsGivenFirst before line texts (λ next rest. IsGiven next lines rest after)

-- the text is all that a run of the program writes for these lines: the answer lines of its items, then the last state
-- lines
pub record IsReported (program : List ℕ) (lines : List (List ℕ)) (text : List ℕ) : Type 0 where
  pub form : FormTree
  pub lens : lens_of program ≡ Ok form
  pub steps : List (TripleTree × JournalAnswer)
  pub is_run : run_of form (items_of (map line_of lines)) ≡ Some steps
  pub is_text : text ≡ text_from form (triple_at_first form) steps

-- a session of this form at this triple; or memory ran out
abbrev pub IsSameState : FormTree → TripleTree → EmbeddedSession → Type 0
IsSameState form t (embedded.Open r) = (form_of r ≡ form) × (triple_tree r.session.triple ≡ t)
IsSameState form t embedded.NoMemory = Unit {0}
IsSameState form t k = ⊥
