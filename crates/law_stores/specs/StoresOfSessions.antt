-- A run over a store, whatever session it has: what it stores, and two runs one after the other.
-- Read it from the end: `IsOneRun`, `AddsRun`, then `HeldStore`.
use Rattle.std.specs.Prelude.{◌≡◌, ◌⊎◌, ℕ, List, ◌++◌, Option, Some, None, Ok, false, option_to_list}
use Rattle.edit_journal.specs.declared.line.Line.{Line}
use Rattle.store_run.specs.StoreRuns.{any_line_refused, kept_of, last_stored, run_in_store}
use Rattle.store_run.specs.declared.session.StoredAnswer.{StoredAnswer}
use Rattle.store_run.specs.declared.session.StoredSession as OfSession
use Rattle.law_stores.specs.SessionRuns.{AreSameSteps, item_lines, accepted_lines, storing_steps}

-- The payloads of a store, the state that they stand for, and the version record if it is still to be stored.
pub record HeldStore {A : Type 0} (session : OfSession.Ghosts A) : Type 0 where
  pub payloads : List (List ℕ)
  pub state : session.State
  pub version : Option (List ℕ)
  pub stands : session.stands_for payloads ≡ Ok (state, version)

module _ {A : Type 0} (session : OfSession.Ghosts A) where
  -- the payloads, and behind them the version record if it is still to be stored
  abbrev pub complete_payloads : HeldStore session → List (List ℕ)
  complete_payloads store = store.payloads ++ option_to_list store.version

  -- The store `after` is the store `before` and what a run over these lines adds to it.
  pub record AddsRun (before : HeldStore session) (lines : List Line) (after : HeldStore session) : Type 0 where
    -- for each item, from the state of the store `before` on, the state after it and the answer to it
    pub steps : List (session.State × StoredAnswer)
    pub is_run : run_in_store session before.state 0 lines ≡ Some steps
    -- the state is the last one of the run
    pub at_last : after.state ≡ last_stored before.state steps
    -- behind the payloads from before and the version record are those of the accepted changes, in order
    pub stored : complete_payloads after ≡ complete_payloads before ++ kept_of steps
    -- if a payload was added, the version record is stored
    pub version : (after.payloads ≡ before.payloads) ⊎ (after.version ≡ None)

  -- The store `after` is what two runs made of the store `before`, one after the other: over the lines `first` by
  -- `steps`, and over the lines `second` by `others`. It is also what one run makes of it.
  pub record IsOneRun (before : HeldStore session) (first : List Line) (steps : List (session.State × StoredAnswer))
      (second : List Line) (others : List (session.State × StoredAnswer)) (after : HeldStore session) : Type 0 where
    -- Over the lines of both, the steps of the one run are those of the first run and then those of the second, under
    -- the numbers that follow.
    pub behind : List (session.State × StoredAnswer)
    pub joined : run_in_store session before.state 0 (first ++ second) ≡ Some (steps ++ behind)
    pub same : AreSameSteps session (last_stored before.state steps) (item_lines second) others behind
    -- Over the lines alone that both accepted, the steps of the one run are the accepted ones of both, but for the
    -- numbers of the answers. It refuses nothing.
    pub accepted : List (session.State × StoredAnswer)
    pub is_accepted_run : run_in_store session before.state 0
        (accepted_lines session first steps ++ accepted_lines session second others) ≡ Some accepted
    pub accepts : AreSameSteps session before.state
        (accepted_lines session first steps ++ accepted_lines session second others)
        (storing_steps session steps ++ storing_steps session others) accepted
    pub none_refused : any_line_refused accepted ≡ false
    -- the store has the last state of that run
    pub at_last : after.state ≡ last_stored before.state accepted
    -- behind the payloads from before and the version record are those of the accepted changes of both, in order
    pub stored : complete_payloads after ≡ complete_payloads before ++ (kept_of steps ++ kept_of others)
