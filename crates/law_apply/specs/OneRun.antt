-- A run, and the run over the changes that it accepted.
-- Read it from the end: `IsRunOfAccepted`, then `accepted_steps` and `as_items`.
use Rattle.std.specs.Prelude.{◌≡◌, List, [], ◌∷◌, map, Some, Ok, false, if◌then◌else◌}
use Rattle.edit_module.specs.Changes.{ChangeTree}
use Rattle.edit_session.specs.Run.{any_refused, is_refused, last}
use Rattle.edit_session.specs.Step.{TripleTree}
use Rattle.run_answers.specs.ItemRuns.{JournalItem, JournalAnswer, run_from}
use Rattle.lens_forms.specs.Forms.{FormTree}
use Rattle.store_session.specs.Journals.{accepted_changes}

-- changes as the items of a journal
abbrev pub as_items : List ChangeTree → List JournalItem
as_items changes = map (λ change. Ok change) changes

-- the steps of a run that were accepted, in order: the triple after each, and its answer with the translated words
abbrev pub accepted_steps : List (TripleTree × JournalAnswer) → List (TripleTree × JournalAnswer)
accepted_steps [] = []
accepted_steps (step ∷ steps) = if is_refused step.1 then accepted_steps steps else step ∷ accepted_steps steps

-- The run over these items is this journal. Then the changes that it accepted have a run of their own.
pub record IsRunOfAccepted (form : FormTree) (triple : TripleTree) (items : List JournalItem)
    (journal : List (TripleTree × JournalAnswer)) : Type 0 where
  -- its steps are the accepted ones of the journal: the same triples, and the same words
  pub is_run : run_from form triple (as_items (accepted_changes items journal)) ≡ Some (accepted_steps journal)
  -- it ends with the same triple
  pub at_last : last triple (accepted_steps journal) ≡ last triple journal
  -- it refuses nothing
  pub none_refused : any_refused (accepted_steps journal) ≡ false
