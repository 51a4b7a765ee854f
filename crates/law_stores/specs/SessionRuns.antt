-- Steps of a session by the same lines, under other numbers. Read it from the end: `IsNumberedAlike`, `storing_steps`,
-- `accepted_lines`, then `AreSameSteps`.
use Rattle.std.specs.Prelude.{◌≡◌, ℕ, List, [], ◌∷◌, Some, is_some, if◌then◌else◌}
use Rattle.edit_journal.specs.Lines.{is_blank}
use Rattle.edit_journal.specs.declared.line.Line.{Line}
use Rattle.store_run.specs.declared.session.StoredAnswer.{StoredAnswer}
use Rattle.store_run.specs.declared.session.StoredSession as OfSession

-- the items among the lines of a journal: each line that is not blank
abbrev pub item_lines : List Line → List Line
item_lines [] = []
item_lines (line ∷ lines) = if is_blank line then item_lines lines else line ∷ item_lines lines

module _ {A : Type 0} (session : OfSession.Ghosts A) where
  -- The two steps are what this line makes of this state, under two numbers. They come to the same state, and the same
  -- payload is stored.
  pub record IsSameStep (t : session.State) (line : Line) (step other : session.State × StoredAnswer) : Type 0 where
    pub number : ℕ
    pub other_number : ℕ
    pub is : session.answer t number line ≡ Some step
    pub other_is : session.answer t other_number line ≡ Some other
    pub same_state : other.0 ≡ step.0
    pub same_payload : other.1.payload ≡ step.1.payload

  -- From this state on, both are the steps by these items: they are the same but for the numbers of the answers.
  abbrev pub AreSameSteps : session.State → List Line → List (session.State × StoredAnswer)
      → List (session.State × StoredAnswer) → Type 0
  AreSameSteps t [] [] [] = Unit {0}
  AreSameSteps t (line ∷ lines) (step ∷ steps) (other ∷ others) =
      IsSameStep t line step other × AreSameSteps step.0 lines steps others
  AreSameSteps t _ _ _ = ⊥

  -- this line in front of those that are accepted behind it, if the step by it is accepted
  abbrev pub first_accepted : Line → (List (session.State × StoredAnswer) → List Line)
      → List (session.State × StoredAnswer) → List Line
  first_accepted line others [] = []
  first_accepted line others (step ∷ steps) =
      if is_some step.1.payload then line ∷ others steps else others steps

  -- of the lines of a run with these steps, those whose change was accepted
  abbrev pub accepted_lines : List Line → List (session.State × StoredAnswer) → List Line
  accepted_lines [] steps = []
  accepted_lines (line ∷ lines) steps =
      if is_blank line then accepted_lines lines steps
      else first_accepted line (λ others. accepted_lines lines others) steps

  -- the steps whose change was accepted
  abbrev pub storing_steps : List (session.State × StoredAnswer) → List (session.State × StoredAnswer)
  storing_steps [] = []
  storing_steps (step ∷ steps) =
      if is_some step.1.payload then step ∷ storing_steps steps else storing_steps steps

  -- The number of an item changes the answer line alone: under every number the line comes to the same state, and the
  -- same payload is stored.
  abbrev pub IsNumberedAlike : Type 0
  IsNumberedAlike = (t : session.State) (n m : ℕ) (line : Line) (step : session.State × StoredAnswer)
      → session.answer t n line ≡ Some step
      → (other : session.State × StoredAnswer) × (session.answer t m line ≡ Some other)
      × (other.0 ≡ step.0) × (other.1.payload ≡ step.1.payload)
