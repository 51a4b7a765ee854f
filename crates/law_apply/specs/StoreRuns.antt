-- A run over a store: what it stores, and two of them one after the other.
-- Read it from the end: `AreOneRun`, `HoldsRun`, then `StoreParts`.
use Rattle.std.specs.Prelude.{◌≡◌, ◌⊎◌, ℕ, List, ◌++◌, map, Option, Some, None, Ok, option_to_list}
use Rattle.std.specs.List.{AllByRecursion}
use Rattle.edit_session.specs.Run.{last}
use Rattle.edit_session.specs.Step.{TripleTree}
use Rattle.run_answers.specs.ItemRuns.{JournalItem, JournalAnswer, IsInStepFor, run_from}
use Rattle.store_session.specs.Journals.{IsStateInStep, accepted_changes}
use Rattle.store_session.specs.StoredStates.{StoredState, state_with, stands_for, change_text}
use Rattle.law_apply.specs.OneRun.{as_items, accepted_steps}

-- The payloads of a store, the state that they stand for, and the version record if it is still to be stored.
pub record StoreParts : Type 0 where
  pub payloads : List (List ℕ)
  pub state : StoredState
  pub version : Option (List ℕ)
  pub stands : stands_for payloads ≡ Ok (state, version)

-- the payloads, and behind them the version record if it is still to be stored
abbrev pub with_version : StoreParts → List (List ℕ)
with_version store = store.payloads ++ option_to_list store.version

-- every triple of these steps is in the consistency relation of the store's lens
abbrev pub AreInStep : StoreParts → List (TripleTree × JournalAnswer) → Type 0
AreInStep store steps =
    AllByRecursion (λ (step : TripleTree × JournalAnswer). IsInStepFor store.state.form step.0) steps

-- The store `after` is the store `before` and what a run over these items adds to it.
pub record HoldsRun (before : StoreParts) (items : List JournalItem) (after : StoreParts) : Type 0 where
  -- for each item, from the state of the store `before` on, the triple after it and the answer to it
  pub journal : List (TripleTree × JournalAnswer)
  pub is_run : run_from before.state.form before.state.triple items ≡ Some journal
  -- the lens is the same, and the triple is the last one of the run
  pub at_last : after.state ≡ state_with before.state.form (last before.state.triple journal)
  -- behind the payloads from before and the version record are those of the accepted changes, in order
  pub stored : with_version after ≡ with_version before ++ map change_text (accepted_changes items journal)
  -- if a payload was added, the version record is stored
  pub version : (after.payloads ≡ before.payloads) ⊎ (after.version ≡ None)
  -- the triple of the store `before` and every triple of the run are in the lens's consistency relation
  pub first_in_step : IsStateInStep before.state
  pub in_step : AreInStep before journal

-- The store `after` is what two runs made of the store `before`, one after the other: over the items `first` with the
-- steps `journal`, and over the items `second` with the steps `others`. It is also what one run makes of it.
pub record AreOneRun (before : StoreParts) (first : List JournalItem) (journal : List (TripleTree × JournalAnswer))
    (second : List JournalItem) (others : List (TripleTree × JournalAnswer)) (after : StoreParts) : Type 0 where
  -- over the items of both, the steps of the one run are those of both
  pub joined : run_from before.state.form before.state.triple (first ++ second) ≡ Some (journal ++ others)
  -- over the accepted changes of both, the steps of the one run are the accepted ones of both: the same triples, and
  -- the same words
  pub accepted : run_from before.state.form before.state.triple
      (as_items (accepted_changes first journal ++ accepted_changes second others))
      ≡ Some (accepted_steps journal ++ accepted_steps others)
  -- the store has the last triple of that run
  pub at_last : after.state
      ≡ state_with before.state.form (last before.state.triple (accepted_steps journal ++ accepted_steps others))
  -- behind the payloads from before and the version record are those of the accepted changes of both, in order
  pub stored : with_version after
      ≡ with_version before ++ map change_text (accepted_changes first journal ++ accepted_changes second others)
  -- the triple of the store `before` and every triple of both are in the lens's consistency relation
  pub first_in_step : IsStateInStep before.state
  pub in_step : AreInStep before (journal ++ others)
