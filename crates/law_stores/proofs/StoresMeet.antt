-- Two calls over the parts of a journal come to what one call over the journal comes to.
use Rattle.std.proofs.Common.{◌≡◌, List, ◌++◌, Some, None, sym, ap, ◌∙◌, append-nil}
use Rattle.std.specs.Prelude.{option_to_list}
use Rattle.edit_journal.specs.declared.line.Line.{Line}
use Rattle.store_run.specs.StoreRuns.{kept_of, last_stored, run_in_store}
use Rattle.store_run.specs.declared.session.StoredAnswer.{StoredAnswer}
use Rattle.store_run.specs.declared.session.StoredSession as OfSession
use Rattle.law_stores.specs.CutStores.{MeetAgain}
use Rattle.law_stores.specs.SessionRuns.{IsNumberedAlike}
use Rattle.law_stores.specs.StoresOfSessions.{HeldStore, complete_payloads, AddsRun}
use Rattle.law_stores.proofs.RunsAreOne.{both, whole_run}

module _ {A : Type 0} (session : OfSession.Ghosts A) (alike : IsNumberedAlike session) (before between after other : HeldStore session) (first second lines : List Line)
    (one : AddsRun session before first between) (two : AddsRun session between second after) (whole : AddsRun session before lines other) (parts : lines ≡ first ++ second) where
  -- with the version record stored, the payloads are all
  all_payloads : (store : HeldStore session) → store.version ≡ None → complete_payloads session store ≡ store.payloads
  all_payloads store h = ap (λ o. store.payloads ++ option_to_list o) h ∙ append-nil store.payloads

  abbrev joined_run : AddsRun session before (first ++ second) after
  joined_run = whole_run session alike before between after first second one two

  same_steps : whole.steps ≡ joined_run.steps
  same_steps =
      let a = joined_run.is_run in
      let b : run_in_store session before.state 0 (first ++ second) ≡ Some whole.steps = ap (run_in_store session before.state 0) (sym parts) ∙ whole.is_run in
      let c : Some whole.steps ≡ Some joined_run.steps = sym b ∙ a in
      cc

  pub meet_again : other.version ≡ None → after.version ≡ None → MeetAgain session before.state one.steps second two.steps after whole.steps other
  meet_again h k =
      let b = both session alike before between after first second one two in
      record {
        behind = b.behind;
        same_steps = same_steps;
        same = b.same;
        same_payloads =
            sym (all_payloads other h)
            ∙ (whole.stored ∙ ap (λ (steps : List (session.State × StoredAnswer)). complete_payloads session before ++ kept_of steps) same_steps ∙ sym joined_run.stored)
            ∙ all_payloads after k;
        same_state = whole.at_last ∙ ap (λ (steps : List (session.State × StoredAnswer)). last_stored before.state steps) same_steps ∙ sym joined_run.at_last;
      }
