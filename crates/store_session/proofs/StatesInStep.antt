-- What stands is in step, and a step by an item keeps it so.
use Rattle.std.proofs.Common.{◌≡◌, ℕ, ◌+◌, List, [], ◌∷◌, Bool, true, false, cond, Option, Some, None, option_map, option_and_then, Result, Ok, Err, map, refl, sym, ap, subst}
use Rattle.std.specs.Prelude.{nat_eq}
use Rattle.std.specs.List.{AllByRecursion}
use Rattle.std.proofs.lemmas.List.Elements.{recursion_from_All}
use Rattle.texts.specs.declared.side.Side.{Side}
use Rattle.texts.specs.declared.side.Side.TheVariants.{Left, Right}
use Rattle.edit_module.specs.Changes.{ChangeTree, one, group}
use Rattle.edit_module.specs.Words.{WordTree}
use Rattle.edit_journal.specs.EntryJson.{LineFault}
use Rattle.edit_session.specs.Run.{answered, group_answered, take_item}
use Rattle.edit_session.specs.Step.{TripleTree, Stepped, AllStepped, alone, step}
use Rattle.edit_session.proofs.RunInStep.{runs_stay_in_step}
use Rattle.lens_steps.specs.LawsOfForms.{form_starts, form_edits}
use Rattle.run_answers.specs.ItemRuns.{JournalItem, JournalAnswer, IsInStepFor}
use Rattle.lens_core.specs.Consistency.{IsConsistent}
use Rattle.lens_core.specs.Translation.{translate}
use Rattle.lens_forms.specs.Forms.{FormTree, left_type, right_type}
use Rattle.lens_forms.specs.Typing.{is_typed}
use Rattle.store_records.specs.RecordJson.{RecordTree, version_record, change_record, snapshot_record}
use Rattle.store_records.specs.declared.record_fault.RecordFault.{RecordFault}
use Rattle.store_records.specs.declared.record_fault.RecordFault.TheVariants.{BadRecord, NotConsistent}
use Rattle.store_session.specs.ConsistencyTest.{is_consistent}
use Rattle.store_session.specs.Stands.{Standing, after_record, after_step, after_triple, is_too_new, step_of, triple_of, stands}
use Rattle.store_session.specs.ConsistencyDecided.{consistent_if}
use Rattle.store_session.specs.Journals.{IsStateInStep}
use Rattle.store_session.specs.StoodInduction.{all_stood}
use Rattle.store_session.specs.StoredStates.{StoredState, state_of, version_for, opened_as, stands_for}
use Rattle.store_session.specs.TypedStores.{first_typed}

-- ---- one item

module _ (l : FormTree) (typed : is_typed l ≡ true) where
  -- what the lens of the form makes of a triple by an item
  abbrev pub taken_by : TripleTree → JournalItem → Option (TripleTree × JournalAnswer)
  taken_by t item = take_item (left_type l) (right_type l) (translate l) t item

  one_of : (t : TripleTree) (o : Option (TripleTree × JournalAnswer)) (ts : List TripleTree)
      → option_map (λ (steps : List (TripleTree × JournalAnswer)). t ∷ map (λ s. s.0) steps)
      (option_and_then (λ (s : TripleTree × JournalAnswer). option_map (λ (steps : List (TripleTree × JournalAnswer)). s ∷ steps) (Some [])) o) ≡ Some ts
      → AllByRecursion (IsInStepFor l) ts → (s : TripleTree × JournalAnswer) × (o ≡ Some s) × IsInStepFor l s.0
  one_of t (Some s) ts h all =
      let same : t ∷ s.0 ∷ [] ≡ ts = cc in
      let here = subst (AllByRecursion (IsInStepFor l)) (sym same) all in
      (s, refl, here.1.0)
  one_of t None ts h all = cc

  pub item_in_step : (t : TripleTree) (item : JournalItem) → IsInStepFor l t
      → (s : TripleTree × JournalAnswer) × (taken_by t item ≡ Some s) × IsInStepFor l s.0
  item_in_step t item h =
      let run = runs_stay_in_step LineFault (IsConsistent l) (left_type l) (right_type l) (translate l) (form_edits l typed Left) (form_edits l typed Right) t (item ∷ []) h in
      one_of t (taken_by t item) run.0 run.1 (recursion_from_All (IsInStepFor l) run.0 run.2)

  entry_taken : (t : TripleTree) (side : Side) (o : Option Stepped) (m : TripleTree × List WordTree) → option_map alone o ≡ Some (Ok m)
      → (a : JournalAnswer) × (option_map (answered {F = LineFault} t side) o ≡ Some (m.0, a))
  entry_taken t side (Some (Ok s)) m h =
      let same : s.0 ≡ m.0 = cc in
      let a = answered {F = LineFault} t side (Ok s) in
      (a.1, ap (λ (x : TripleTree). Some (x, a.1)) same)
  entry_taken t side (Some (Err why)) m h = cc
  entry_taken t side None m h = cc

  change_taken : (t : TripleTree) (change : ChangeTree) (m : TripleTree × List WordTree) → step_of l t change ≡ Some (Ok m)
      → (a : JournalAnswer) × (taken_by t (Ok change) ≡ Some (m.0, a))
  change_taken t (one e) m h = entry_taken t e.0 (step (left_type l) (right_type l) (translate l) t e) m h
  change_taken t (group es) m h =
      let a = group_answered {F = LineFault} t es (Ok m) in
      (a.1, ap (option_map (group_answered {F = LineFault} t es)) h)

  same_triple : (t u : TripleTree) (a : JournalAnswer) (item : JournalItem) → taken_by t item ≡ Some (u, a)
      → (s : TripleTree × JournalAnswer) × (taken_by t item ≡ Some s) × IsInStepFor l s.0 → IsInStepFor l u
  same_triple t u a item h k =
      let other = k.1 in
      let pair : k.0 ≡ (u, a) = cc in
      subst (λ (p : TripleTree × JournalAnswer). IsInStepFor l p.0) pair k.2

  pub change_in_step : (t : TripleTree) (change : ChangeTree) (m : TripleTree × List WordTree) → IsInStepFor l t → step_of l t change ≡ Some (Ok m) → IsInStepFor l m.0
  change_in_step t change m h e =
      let k = change_taken t change m e in
      same_triple t m.0 k.0 (Ok change) k.1 (item_in_step t (Ok change) h)

-- ---- one record

-- the form is typed, and the triple is consistent for it
abbrev IsSound : Standing → Type 0
IsSound s = (is_typed s.form ≡ true) × IsInStepFor s.form s.triple

module _ (n : ℕ) (s u : Standing) (k : IsSound s) where
  if_version : (b : Bool) → cond b (Ok (record s { version = 2 })) (Err (BadRecord n)) ≡ Ok u → IsSound u
  if_version true h = let same : record s { version = 2 } ≡ u = cc in subst IsSound same k
  if_version false h = cc

  if_change : (b : Bool) (change : ChangeTree) (o : Option AllStepped) → step_of s.form s.triple change ≡ o → cond b (Err (BadRecord n)) (after_step n s o) ≡ Ok u → IsSound u
  if_change true change o e h = cc
  if_change false change (Some (Ok made)) e h =
      let same : record s { triple = made.0; count = s.count + 1 } ≡ u = cc in
      subst IsSound same (k.0, change_in_step s.form k.0 s.triple change made k.1 e)
  if_change false change (Some (Err why)) e h = cc
  if_change false change None e h = cc

  if_consistent : (b : Bool) (t : TripleTree) → is_consistent s.form t.left t.comp t.right ≡ b → cond b (Ok (record s { triple = t })) (Err (NotConsistent n)) ≡ Ok u → IsSound u
  if_consistent true t e h =
      let same : record s { triple = t } ≡ u = cc in
      subst IsSound same (k.0, consistent_if s.form t.left t.comp t.right k.0 e)
  if_consistent false t e h = cc

  if_triple : (o : Option TripleTree) → after_triple n s o ≡ Ok u → IsSound u
  if_triple (Some t) h = if_consistent (is_consistent s.form t.left t.comp t.right) t refl h
  if_triple None h = cc

  record_sound : (r : Option RecordTree) → after_record n s r ≡ Ok u → IsSound u
  record_sound None h = cc
  record_sound (Some version_record) h = if_version (nat_eq s.version 1) h
  record_sound (Some (change_record change)) h = if_change (is_too_new change s.version) change (step_of s.form s.triple change) refl h
  record_sound (Some (snapshot_record p)) h = if_triple (triple_of s.form p) h

-- ---- all records

sound_stood : (ps : List (List ℕ)) (s : Standing) → stands ps ≡ Ok s → IsSound s
sound_stood =
    all_stood IsSound (λ n s t r k h. record_sound n s t k r h)
    (λ p x h. let typed = first_typed p x h in (typed, form_starts x.0 typed))

opened_sound : (ps : List (List ℕ)) (r : Result Standing RecordFault) (t : StoredState) (v : Option (List ℕ)) → stands ps ≡ r → opened_as r ≡ Ok (t, v)
    → (is_typed t.form ≡ true) × IsStateInStep t
opened_sound ps (Ok s) t v e h =
    let pair : (state_of s, version_for s.version) ≡ (t, v) = cc in
    subst (λ (p : StoredState × Option (List ℕ)). (is_typed p.0.form ≡ true) × IsStateInStep p.0) pair (sound_stood ps s e)
opened_sound ps (Err fault) t v e h = cc

pub stored_sound : (ps : List (List ℕ)) (t : StoredState) (v : Option (List ℕ)) → stands_for ps ≡ Ok (t, v) → (is_typed t.form ≡ true) × IsStateInStep t
stored_sound ps t v h = opened_sound ps (stands ps) t v refl h
