-- The run of a session over the lines of a journal, and what its steps come to.
use Rattle.std.specs.Prelude.{◌≡◌, ℕ, ◌+◌, List, [], ◌∷◌, ◌++◌, Bool, false, not, ◌||◌, Option, Some, option_map}
use Rattle.std.specs.Prelude.{option_and_then, option_to_list, is_some, if◌then◌else◌}
use Rattle.std.specs.Io.{StartsWith}
use Rattle.edit_journal.specs.Lines.{is_blank}
use Rattle.edit_journal.specs.declared.line.Line.{Line}
use Rattle.store_run.specs.OkLines.{IsAnswer}
use Rattle.store_run.specs.declared.session.StoredAnswer.{StoredAnswer}
use Rattle.store_run.specs.declared.session.StoredSession as OfSession

module _ {State : Type 0} where
  -- the answer lines of some steps
  abbrev pub text_of : List (State × StoredAnswer) → List ℕ
  text_of [] = []
  text_of (s ∷ steps) = s.1.line ++ text_of steps

  -- the payloads of the changes that were accepted
  abbrev pub kept_of : List (State × StoredAnswer) → List (List ℕ)
  kept_of [] = []
  kept_of (s ∷ steps) = option_to_list s.1.payload ++ kept_of steps

  -- an item was refused
  abbrev pub any_line_refused : List (State × StoredAnswer) → Bool
  any_line_refused [] = false
  any_line_refused (s ∷ steps) = not (is_some s.1.payload) || any_line_refused steps

  -- each step has an answer
  abbrev pub AreAnswers : List (State × StoredAnswer) → Type 0
  AreAnswers [] = Unit {0}
  AreAnswers (s ∷ steps) = IsAnswer s.1 × AreAnswers steps

  -- the state after the last step
  abbrev pub last_stored : State → List (State × StoredAnswer) → State
  last_stored t [] = t
  last_stored t (s ∷ steps) = last_stored s.0 steps

module _ {A : Type 0} (session : OfSession.Ghosts A) where
  -- for each line that is not blank the state after it and its answer; n items were answered before
  abbrev pub run_in_store : session.State → ℕ → List Line → Option (List (session.State × StoredAnswer))
  run_in_store t n [] = Some []
  run_in_store t n (line ∷ lines) = if is_blank line then run_in_store t n lines
      else option_and_then (λ s. option_map (λ steps. s ∷ steps) (run_in_store s.0 (n + 1) lines)) (session.answer t
      (n + 1) line)

  -- The run goes over these lines by these steps, whatever lines follow: from the first state and number to the second.
  abbrev pub StoreGoesOver : session.State → ℕ → List Line → List (session.State × StoredAnswer) → session.State → ℕ
      → Type 0
  StoreGoesOver t n lines steps t' n' = (more : List Line)
      → run_in_store t n (lines ++ more) ≡ option_map (λ rest. steps ++ rest) (run_in_store t' n' more)

  -- each step is what some line makes of the state before it, and it was made
  abbrev pub AreSteps : session.State → List (session.State × StoredAnswer) → Type 0
  AreSteps t [] = Unit {0}
  AreSteps t (s ∷ steps) = ((n : ℕ) × (line : Line) × (session.answer t n line ≡ Some s) × session.is_step t n line s)
      × AreSteps s.0 steps

  -- These lines are answered, n items before them, and their answer lines are the beginning of this text.
  pub record AreAnsweredIn (t : session.State) (n : ℕ) (lines : List Line) (text : List ℕ) : Type 0 where
    pub steps : List (session.State × StoredAnswer)
    pub is_run : run_in_store t n lines ≡ Some steps
    pub written : StartsWith text (text_of steps)
