-- The run over the lines of an input: each line that is not blank is an item, and a state answers the items one after
-- another. What an item makes of a state is given. Read it from the end: `GoesOver`, `written`, then `run_lines`.
use Rattle.std.specs.Prelude.{◌≡◌, ℕ, ◌+◌, List, [], ◌∷◌, ◌++◌, Bool, ◌||◌, Option, Some, option_map, option_and_then}
use Rattle.std.specs.Prelude.{if◌then◌else◌, map}
use Rattle.std.specs.List.{list_any}
use Rattle.edit_journal.specs.Lines.{is_blank}
use Rattle.edit_journal.specs.declared.line.Line.{Line}
use Rattle.run_scripts.specs.declared.progress.Progress.{Progress}
use Rattle.run_scripts.specs.Answers.{Answer}

-- How far a run has come: how many items it has read, whether it refused one, and all its answers.
pub record Come : Type 0 where
  pub number : ℕ
  pub refused : Bool
  pub text : List ℕ

-- how far it has come, with the answers that were written before
abbrev pub come : List ℕ → Progress → Come
come given p = record { number = p.number; refused = p.refused; text = given ++ p.text.items }

module _ {T : Type 0} where
  -- the state after the last item
  abbrev pub last_state : T → List (T × Answer) → T
  last_state t [] = t
  last_state t (s ∷ steps) = last_state s.0 steps

  -- the answer lines in order
  abbrev pub answers_text : List (T × Answer) → List ℕ
  answers_text [] = []
  answers_text (s ∷ steps) = s.1.line ++ answers_text steps

  -- some item was refused
  abbrev pub any_answer_refused : List (T × Answer) → Bool
  any_answer_refused steps = list_any (λ s. s.1.refused) steps

-- a text, whether an item was refused, and a state
abbrev pub Written : Type 0 → Type 0
Written T = List ℕ × Bool × T

module _ {T : Type 0} where
  -- what the steps of a run from a state come to
  abbrev pub of_steps : T → List (T × Answer) → Written T
  of_steps t steps = (answers_text steps, any_answer_refused steps, last_state t steps)

  -- the same for steps that come after some progress
  abbrev pub after_progress : T → Come → List (T × Answer) → Written T
  after_progress t p steps = (p.text ++ answers_text steps, p.refused || any_answer_refused steps, last_state t steps)

module _ {T : Type 0} (answer : T → ℕ → Line → Option (T × Answer)) where
  -- for each item in order, the state after it and the answer to it; this many items came before
  abbrev pub run_lines : T → ℕ → List Line → Option (List (T × Answer))
  run_lines t n [] = Some []
  run_lines t n (line ∷ lines) =
      if is_blank line then run_lines t n lines else option_and_then
      (λ s. option_map (λ steps. s ∷ steps) (run_lines s.0 (n + 1) lines)) (answer t (n + 1) line)

  -- every state of a run from this one on: it, and the one after each item, those after refused items included
  abbrev pub states : T → List Line → Option (List T)
  states t lines = option_map (λ steps. t ∷ map (λ s. s.0) steps) (run_lines t 0 lines)

  -- what a run over these lines comes to
  abbrev pub written : T → List Line → Option (Written T)
  written t lines = option_map (of_steps t) (run_lines t 0 lines)

  -- what it comes to with the progress before, and the lines that are left
  abbrev pub written_after : T → Come → List Line → Option (Written T)
  written_after t p lines = option_map (after_progress t p) (run_lines t p.number lines)

  -- The run goes over these lines: from the first state and progress it comes to the second, whatever was written
  -- before and whatever lines follow.
  abbrev pub GoesOver : T → Progress → List Line → T → Progress → Type 0
  GoesOver t p lines t' p' =
      (given : List ℕ) (more : List Line) → written_after t (come given p) (lines ++ more)
      ≡ written_after t' (come given p') more
