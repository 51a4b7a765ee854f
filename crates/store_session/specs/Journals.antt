-- The run of a stored session over the lines of a journal, beside the run of the journal's items.
-- Read it from the end: `IsJournalRun` and `IsRunOfItems`, then `accepted_changes`.
use Rattle.std.specs.Prelude.{◌≡◌, ℕ, ◌+◌, List, [], ◌∷◌, ◌++◌, Option, Some, None, Ok, Err, map, option_to_list}
use Rattle.std.specs.Prelude.{if◌then◌else◌}
use Rattle.std.specs.List.{AllByRecursion}
use Rattle.edit_module.specs.Changes.{ChangeTree}
use Rattle.edit_journal.specs.declared.line.Line.{Line}
use Rattle.edit_session.specs.Step.{TripleTree}
use Rattle.edit_session.specs.Run as journals
use Rattle.edit_session.specs.Run.{is_refused}
use Rattle.run_answers.specs.Answers.{answer_lines}
use Rattle.run_answers.specs.ItemRuns.{JournalItem, JournalAnswer, IsInStepFor, items_of, run_from}
use Rattle.store_run.specs.StoreRuns.{text_of, kept_of, any_line_refused, last_stored}
use Rattle.store_run.specs.declared.session.StoredAnswer.{StoredAnswer}
use Rattle.store_session.specs.StoredStates.{StoredState, state_with, change_text}

-- the change of an item, where the answer accepts it
abbrev pub accepted_change : JournalItem → JournalAnswer → Option ChangeTree
accepted_change (Ok change) answer = if is_refused answer then None else Some change
accepted_change (Err fault) answer = None

-- the changes that the steps of a run over these items accept, in order
abbrev pub accepted_changes : List JournalItem → List (TripleTree × JournalAnswer) → List ChangeTree
accepted_changes [] steps = []
accepted_changes (item ∷ items) [] = []
accepted_changes (item ∷ items) (s ∷ steps) = option_to_list (accepted_change item s.1) ++ accepted_changes items steps

-- the triple of a state is consistent for its form
abbrev pub IsStateInStep : StoredState → Type 0
IsStateInStep s = IsInStepFor s.form s.triple

-- The steps from a state on, behind n items, are those of the run of these items of a journal: the same answer lines,
-- the same triple at the end, refused where that run refuses. All states are consistent. The payloads are those of the
-- changes that were accepted, in order.
pub record IsRunOfItems (s : StoredState) (n : ℕ) (items : List JournalItem)
    (steps : List (StoredState × StoredAnswer)) : Type 0 where
  pub journal : List (TripleTree × JournalAnswer)
  pub is_run : run_from s.form s.triple items ≡ Some journal
  pub text : text_of steps ≡ answer_lines (n + 1) journal
  pub at_last : last_stored s steps ≡ state_with s.form (journals.last s.triple journal)
  pub refused : any_line_refused steps ≡ journals.any_refused journal
  pub kept : kept_of steps ≡ map change_text (accepted_changes items journal)
  pub in_step : AllByRecursion (λ (step : StoredState × StoredAnswer). IsStateInStep step.0) steps

-- the items are those of the lines of a journal
abbrev pub IsJournalRun : StoredState → ℕ → List Line → List (StoredState × StoredAnswer) → Type 0
IsJournalRun s n lines steps = IsRunOfItems s n (items_of lines) steps
