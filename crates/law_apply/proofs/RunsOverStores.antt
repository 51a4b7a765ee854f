-- Two runs over a store are one.
use Rattle.std.proofs.Common.{◌≡◌, ◌⊎◌, inl, inr, ℕ, List, [], ◌∷◌, ◌++◌, true, Option, None, Some, Ok, sym, ap, subst, ◌∙◌, append_assoc}
use Rattle.std.specs.Prelude.{map}
use Rattle.std.specs.List.{AllByRecursion}
use Rattle.std.proofs.lemmas.List.{map-append}
use Rattle.edit_session.specs.Run.{last, take_item}
use Rattle.edit_session.specs.Step.{TripleTree}
use Rattle.run_answers.specs.ItemRuns.{JournalItem, JournalAnswer, IsInStepFor, run_from}
use Rattle.lens_core.specs.Translation.{translate}
use Rattle.lens_forms.specs.Forms.{FormTree, left_type, right_type}
use Rattle.lens_forms.specs.Typing.{is_typed}
use Rattle.store_session.specs.Journals.{accepted_changes}
use Rattle.store_session.specs.StoredStates.{StoredState, state_with, stands_for, change_text}
use Rattle.store_session.proofs.StatesInStep.{item_in_step}
use Rattle.law_apply.specs.OneRun.{as_items, accepted_steps}
use Rattle.law_apply.specs.StoreRuns.{StoreParts, with_version, AreInStep, HoldsRun, AreOneRun}
use Rattle.law_apply.proofs.RunOfAccepted.{runs_over, joined, accepted_joined, steps_joined, last_joined}
use Rattle.law_stores.proofs.Sequences.{first_is}

abbrev Steps : Type 0
Steps = List (TripleTree × JournalAnswer)

-- ---- triples that are in step

all_joined : {X : Type 0} (P : X → Type 0) (xs ys : List X) → AllByRecursion P xs → AllByRecursion P ys → AllByRecursion P (xs ++ ys)
all_joined P [] ys h k = k
all_joined P (x ∷ xs) ys h k = (h.0, all_joined P xs ys h.1 k)

module _ (l : FormTree) (typed : is_typed l ≡ true) where
  after_item : (t : TripleTree) (item : JournalItem) (s : TripleTree × JournalAnswer) → take_item (left_type l) (right_type l) (translate l) t item ≡ Some s
      → (m : TripleTree × JournalAnswer) × (take_item (left_type l) (right_type l) (translate l) t item ≡ Some m) × IsInStepFor l m.0 → IsInStepFor l s.0
  after_item t item s h k =
      let other = k.1 in
      let same : k.0 ≡ s = cc in
      subst (λ (m : TripleTree × JournalAnswer). IsInStepFor l m.0) same k.2

  pub journal_in_step : (t : TripleTree) (items : List JournalItem) (journal : Steps) → IsInStepFor l t → run_from l t items ≡ Some journal
      → AllByRecursion (λ (s : TripleTree × JournalAnswer). IsInStepFor l s.0) journal
  journal_in_step t items [] h e = tt
  journal_in_step t [] (s ∷ journal) h e = cc
  journal_in_step t (item ∷ items) (s ∷ journal) h e =
      let is = first_is (λ (x : TripleTree × JournalAnswer). run_from l x.0 items) (take_item (left_type l) (right_type l) (translate l) t item) s journal e in
      let here = after_item t item s is.0 (item_in_step l typed t item h) in
      (here, journal_in_step s.0 items journal here is.1)

-- ---- two runs

module _ (before between after : StoreParts) (first second : List JournalItem) (one : HoldsRun before first between) (two : HoldsRun between second after) where
  abbrev pub l : FormTree
  l = before.state.form

  abbrev pub t : TripleTree
  t = before.state.triple

  -- the second run, from the last triple of the first one on
  goes_on : run_from l (last t one.journal) second ≡ Some two.journal
  goes_on = subst (λ (s : StoredState). run_from s.form s.triple second ≡ Some two.journal) one.at_last two.is_run

  pub both : run_from l t (first ++ second) ≡ Some (one.journal ++ two.journal)
  both = joined (left_type l) (right_type l) (translate l) t first second one.journal two.journal one.is_run goes_on

  pub accepts : accepted_changes (first ++ second) (one.journal ++ two.journal) ≡ accepted_changes first one.journal ++ accepted_changes second two.journal
  accepts = accepted_joined (left_type l) (right_type l) (translate l) t first second one.journal two.journal one.is_run

  pub ends : after.state ≡ state_with l (last t (one.journal ++ two.journal))
  ends =
      two.at_last
      ∙ ap (λ (s : StoredState). state_with s.form (last s.triple two.journal)) one.at_last
      ∙ ap (state_with l) (sym (last_joined t one.journal two.journal))

  pub stores : with_version after ≡ with_version before ++ map change_text (accepted_changes first one.journal ++ accepted_changes second two.journal)
  stores =
      two.stored
      ∙ ap (λ l. l ++ map change_text (accepted_changes second two.journal)) one.stored
      ∙ append_assoc (with_version before) (map change_text (accepted_changes first one.journal)) (map change_text (accepted_changes second two.journal))
      ∙ ap (λ l. with_version before ++ l) (sym (map-append change_text (accepted_changes first one.journal) (accepted_changes second two.journal)))

  pub in_step : AreInStep before (one.journal ++ two.journal)
  in_step =
      all_joined (λ (s : TripleTree × JournalAnswer). IsInStepFor l s.0) one.journal two.journal one.in_step
      (subst (λ (s : StoredState). AllByRecursion (λ (x : TripleTree × JournalAnswer). IsInStepFor s.form x.0) two.journal) one.at_last two.in_step)

  -- the same payloads stand for the same
  same_version : after.payloads ≡ between.payloads → between.version ≡ None → after.version ≡ None
  same_version same none =
      let a = after.stands in
      let b = between.stands in
      let c : stands_for after.payloads ≡ stands_for between.payloads = ap stands_for same in
      let d : Ok (after.state, after.version) ≡ stands_for after.payloads = sym a in
      let e : (after.state, after.version) ≡ (between.state, between.version) = cc in
      ap (λ (p : StoredState × Option (List ℕ)). p.1) e ∙ none

  pub versions : (between.payloads ≡ before.payloads) ⊎ (between.version ≡ None) → (after.payloads ≡ between.payloads) ⊎ (after.version ≡ None)
      → (after.payloads ≡ before.payloads) ⊎ (after.version ≡ None)
  versions h (inr k) = inr k
  versions (inl h) (inl k) = inl (k ∙ h)
  versions (inr h) (inl k) = inr (same_version k h)

  pub one_run : AreOneRun before first one.journal second two.journal after
  one_run =
      let a = runs_over (left_type l) (right_type l) (translate l) t (first ++ second) (one.journal ++ two.journal) both in
      let steps = steps_joined one.journal two.journal in
      let accepted : run_from l t (as_items (accepted_changes first one.journal ++ accepted_changes second two.journal)) ≡ Some (accepted_steps one.journal ++ accepted_steps two.journal) =
      ap (λ c. run_from l t (as_items c)) (sym accepts) ∙ a.is_run ∙ ap (λ (s : Steps). Some s) steps in
      record {
        joined = both;
        accepted = accepted;
        at_last = ends ∙ ap (state_with l) (sym a.at_last ∙ ap (last t) steps);
        stored = stores;
        first_in_step = one.first_in_step;
        in_step = in_step;
      }

  abbrev pub whole_run : HoldsRun before (first ++ second) after
  whole_run = record {
    journal = one.journal ++ two.journal;
    is_run = both;
    at_last = ends;
    stored = stores ∙ ap (λ c. with_version before ++ map change_text c) (sym accepts);
    version = versions one.version two.version;
    first_in_step = one.first_in_step;
    in_step = in_step;
  }
