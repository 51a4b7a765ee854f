-- Two runs over a store are one.
use Rattle.std.proofs.Common.{◌≡◌, ◌⊎◌, inl, inr, ℕ, List, ◌++◌, Option, None, Some, Ok, sym, ap, subst, ◌∙◌, append_assoc}
use Rattle.edit_journal.specs.declared.line.Line.{Line}
use Rattle.store_run.specs.StoreRuns.{kept_of, last_stored, run_in_store}
use Rattle.store_run.specs.declared.session.StoredAnswer.{StoredAnswer}
use Rattle.store_run.specs.declared.session.StoredSession as OfSession
use Rattle.law_stores.specs.SessionRuns.{IsNumberedAlike, item_lines, accepted_lines, storing_steps}
use Rattle.law_stores.specs.StoresOfSessions.{HeldStore, complete_payloads, AddsRun, IsOneRun}
use Rattle.law_stores.proofs.SameSteps.{Joined, RunsAs, accepted_joined, joined, kept_joined, last_joined, same_kept, same_last, same_refused}

module _ {A : Type 0} (session : OfSession.Ghosts A) (alike : IsNumberedAlike session) (before between after : HeldStore session) (first second : List Line)
    (one : AddsRun session before first between) (two : AddsRun session between second after) where
  abbrev pub t : session.State
  t = before.state

  -- the second run, from the last state of the first one on
  goes_on : run_in_store session (last_stored t one.steps) 0 second ≡ Some two.steps
  goes_on = subst (λ u. run_in_store session u 0 second ≡ Some two.steps) one.at_last two.is_run

  pub both : Joined session alike t (run_in_store session t 0 (first ++ second)) one.steps two.steps (item_lines second)
  both = joined session alike t 0 0 first second one.steps two.steps one.is_run goes_on

  pub comes_to : after.state ≡ last_stored (last_stored t one.steps) two.steps
  comes_to = two.at_last ∙ ap (λ u. last_stored u two.steps) one.at_last

  pub stores : complete_payloads session after ≡ complete_payloads session before ++ (kept_of one.steps ++ kept_of two.steps)
  stores =
      two.stored
      ∙ ap (λ l. l ++ kept_of two.steps) one.stored
      ∙ append_assoc (complete_payloads session before) (kept_of one.steps) (kept_of two.steps)

  -- the same payloads stand for the same
  same_version : after.payloads ≡ between.payloads → between.version ≡ None → after.version ≡ None
  same_version same none =
      let a = after.stands in
      let b = between.stands in
      let c : session.stands_for after.payloads ≡ session.stands_for between.payloads = ap session.stands_for same in
      let d : Ok (after.state, after.version) ≡ session.stands_for after.payloads = sym a in
      let e : (after.state, after.version) ≡ (between.state, between.version) = cc in
      ap (λ (p : session.State × Option (List ℕ)). p.1) e ∙ none

  pub versions : (between.payloads ≡ before.payloads) ⊎ (between.version ≡ None) → (after.payloads ≡ between.payloads) ⊎ (after.version ≡ None)
      → (after.payloads ≡ before.payloads) ⊎ (after.version ≡ None)
  versions h (inr k) = inr k
  versions (inl h) (inl k) = inl (k ∙ h)
  versions (inr h) (inl k) = inr (same_version k h)

  abbrev pub whole_run : AddsRun session before (first ++ second) after
  whole_run = record {
    steps = one.steps ++ both.behind;
    is_run = both.is;
    at_last =
        comes_to
        ∙ sym (same_last session (last_stored t one.steps) (item_lines second) two.steps both.behind both.same)
        ∙ sym (last_joined session t one.steps both.behind);
    stored =
        stores
        ∙ ap (λ l. complete_payloads session before ++ (kept_of one.steps ++ l)) (sym (same_kept session (last_stored t one.steps) (item_lines second) two.steps both.behind both.same))
        ∙ ap (λ l. complete_payloads session before ++ l) (sym (kept_joined session one.steps both.behind));
    version = versions one.version two.version;
  }

  module _ (refused_stays : (t t' : session.State) (n : ℕ) (line : Line) (a : StoredAnswer) → session.answer t n line ≡ Some (t', a) → a.payload ≡ None → t' ≡ t) where
    accepts : RunsAs session alike t 0 (accepted_lines session first one.steps ++ accepted_lines session second two.steps)
        (storing_steps session one.steps ++ storing_steps session two.steps) (last_stored (last_stored t one.steps) two.steps)
    accepts = accepted_joined session alike refused_stays t 0 0 first second one.steps two.steps one.is_run goes_on

    pub one_run : IsOneRun session before first one.steps second two.steps after
    one_run =
        let lines = accepted_lines session first one.steps ++ accepted_lines session second two.steps in
        let steps = storing_steps session one.steps ++ storing_steps session two.steps in
        record {
          behind = both.behind;
          joined = both.is;
          same = both.same;
          accepted = accepts.others;
          is_accepted_run = accepts.is_run;
          accepts = accepts.same;
          none_refused = same_refused session t lines steps accepts.others accepts.same accepts.none_refused;
          at_last = comes_to ∙ sym (same_last session t lines steps accepts.others accepts.same ∙ accepts.at_last);
          stored = stores;
        }
