-- Two calls over the parts of a journal come to what one call over the journal comes to.
use Rattle.std.proofs.Common.{◌≡◌, List, ◌++◌, Some, None, map, sym, ap, ap₂, ◌∙◌, append-nil}
use Rattle.std.specs.Prelude.{option_to_list}
use Rattle.edit_session.specs.Run.{last}
use Rattle.edit_session.specs.Step.{TripleTree}
use Rattle.run_answers.specs.ItemRuns.{JournalItem, JournalAnswer, run_from}
use Rattle.store_session.specs.Journals.{accepted_changes}
use Rattle.store_session.specs.StoredStates.{state_with, change_text}
use Rattle.law_apply.specs.CutJournals.{ComeToTheSame}
use Rattle.law_apply.specs.StoreRuns.{StoreParts, with_version, HoldsRun}
use Rattle.law_apply.proofs.RunsOverStores.{one_run, whole_run}

abbrev Steps : Type 0
Steps = List (TripleTree × JournalAnswer)

-- with the version record stored, the payloads are all
all_payloads : (store : StoreParts) → store.version ≡ None → with_version store ≡ store.payloads
all_payloads store h = ap (λ o. store.payloads ++ option_to_list o) h ∙ append-nil store.payloads

module _ (before between after other : StoreParts) (first second items : List JournalItem) (one : HoldsRun before first between) (two : HoldsRun between second after)
    (whole : HoldsRun before items other) (parts : items ≡ first ++ second) where
  same_steps : whole.journal ≡ one.journal ++ two.journal
  same_steps =
      let a = (one_run before between after first second one two).joined in
      let b : run_from before.state.form before.state.triple (first ++ second) ≡ Some whole.journal = ap (run_from before.state.form before.state.triple) (sym parts) ∙ whole.is_run in
      let c : Some whole.journal ≡ Some (one.journal ++ two.journal) = sym b ∙ a in
      cc

  same_state : other.state ≡ after.state
  same_state =
      whole.at_last
      ∙ ap (λ (s : Steps). state_with before.state.form (last before.state.triple s)) same_steps
      ∙ sym (whole_run before between after first second one two).at_last

  same_stored : with_version other ≡ with_version after
  same_stored =
      whole.stored
      ∙ ap₂ (λ (i : List JournalItem) (s : Steps). with_version before ++ map change_text (accepted_changes i s)) parts same_steps
      ∙ sym (whole_run before between after first second one two).stored

  pub come_to_the_same : other.version ≡ None → after.version ≡ None → ComeToTheSame one.journal two.journal after whole.journal other
  come_to_the_same h k = record {
    same_steps = same_steps;
    same_payloads = sym (all_payloads other h) ∙ same_stored ∙ all_payloads after k;
    same_state = same_state;
  }
