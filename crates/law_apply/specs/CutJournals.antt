-- A journal that is cut in two between lines, and applied in two calls or in one.
use Rattle.std.specs.Prelude.{◌≡◌, List, ◌++◌}
use Rattle.edit_session.specs.Step.{TripleTree}
use Rattle.run_answers.specs.ItemRuns.{JournalAnswer}
use Rattle.law_apply.specs.StoreRuns.{StoreParts}

-- Two calls, one after the other, came to the store `after` by the steps `first` and `second`. One call over the store
-- before them came to the other store by `steps`.
pub record ComeToTheSame (first second : List (TripleTree × JournalAnswer)) (after : StoreParts)
    (steps : List (TripleTree × JournalAnswer)) (other : StoreParts) : Type 0 where
  -- the triples and the answers of the one call are those of the two, in order
  pub same_steps : steps ≡ first ++ second
  -- it stores the same payloads
  pub same_payloads : other.payloads ≡ after.payloads
  -- they stand for the same lens and the same triple
  pub same_state : other.state ≡ after.state
