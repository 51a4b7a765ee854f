-- A journal that is cut in two between lines, and applied in two calls or in one.
-- Read it from the end: `MeetAgain`, then `EndsALine`.
use Rattle.std.specs.Prelude.{◌≡◌, ◌⊎◌, ℕ, List, [], ◌∷◌, ◌++◌}
use Rattle.edit_journal.specs.declared.line.Line.{Line}
use Rattle.store_run.specs.StoreRuns.{last_stored}
use Rattle.store_run.specs.declared.session.StoredAnswer.{StoredAnswer}
use Rattle.store_run.specs.declared.session.StoredSession as OfSession
use Rattle.law_stores.specs.SessionRuns.{AreSameSteps, item_lines}
use Rattle.law_stores.specs.StoresOfSessions.{HeldStore}

-- the bytes end with an LF, or there are none: what follows them begins a line
abbrev pub EndsALine : List ℕ → Type 0
EndsALine bytes = (bytes ≡ []) ⊎ ((text : List ℕ) × (bytes ≡ text ++ 10 ∷ []))

module _ {A : Type 0} (session : OfSession.Ghosts A) where
  -- Two calls, one after the other, came from this state to the store `after` by the steps `first` and, over these
  -- lines, by the steps `second`. One call over the store before them came to the other store by `steps`.
  pub record MeetAgain (t : session.State) (first : List (session.State × StoredAnswer)) (lines : List Line)
      (second : List (session.State × StoredAnswer)) (after : HeldStore session)
      (steps : List (session.State × StoredAnswer)) (other : HeldStore session) : Type 0 where
    -- the steps of the one call are those of the first and then those of the second, under the numbers that follow
    pub behind : List (session.State × StoredAnswer)
    pub same_steps : steps ≡ first ++ behind
    pub same : AreSameSteps session (last_stored t first) (item_lines lines) second behind
    -- it stores the same payloads
    pub same_payloads : other.payloads ≡ after.payloads
    -- they stand for the same state
    pub same_state : other.state ≡ after.state
