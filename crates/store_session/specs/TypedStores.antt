-- The form of what stands is typed. A lemma, which stands here since the laws of an `impl` cite it.
use Rattle.std.proofs.Common.{◌≡◌, ℕ, ◌+◌, List, [], ◌∷◌, ◌++◌, Bool, true, false, cond, Option, Some, None, option_map}
use Rattle.std.proofs.Common.{option_and_then, Result, Ok, Err, refl, ap, subst}
use Rattle.std.specs.Prelude.{nat_eq}
use Rattle.texts.proofs.Conjunction.{first}
use Rattle.program_terms.specs.Terms as Term
use Rattle.lens_syntax.specs.Programs.{ProgramCause, unbounded}
use Rattle.lens_forms.specs.Forms.{FormTree}
use Rattle.lens_forms.specs.Typing.{is_typed}
use Rattle.lens_types.specs.Sound.{is_sound}
use Rattle.lens_types.specs.Checking.{Failure, def_failure, failure_after, first_failure}
use Rattle.lens_types.specs.Earlier.{Definitions, known_of, all_known, expanded_form, main_form}
use Rattle.lens_types.proofs.SoundForms.{are_sound, sound_more, lens_sound, def_sound, none_both}
use Rattle.program_accepted.specs.Program.{form_without_failure, form_of_program}
use Rattle.edit_session.specs.Step.{TripleTree, AllStepped}
use Rattle.store_records.specs.RecordJson.{RecordTree, version_record, change_record, snapshot_record}
use Rattle.store_records.specs.StoredLens.{accepted, form_of_text, with_form, opening_of_payload, lens_and_version}
use Rattle.store_records.specs.declared.record_fault.RecordFault.TheVariants.{BadRecord, NotConsistent}
use Rattle.store_session.specs.ConsistencyTest.{is_consistent}
use Rattle.store_session.specs.Stands.{Standing, after_record, after_step, after_triple, is_too_new, step_of, triple_of}
use Rattle.store_session.specs.Stands.{stands}
use Rattle.store_session.specs.StoodInduction.{all_stood}

-- ---- the form of a program that is accepted, whatever its length

sound_after : (ds : Definitions) (rest : List (List ℕ × Term.DefTree)) (main : Term.LensTree) → are_sound ds ≡ true
    → failure_after ds rest main ≡ None
    → is_sound (expanded_form (all_known ds rest) main) ≡ true
sound_after ds [] main s h = lens_sound ds s main h
sound_after ds (d ∷ rest) main s h =
    let none = none_both (def_failure ds d.1) (failure_after (ds ++ (d.0, known_of ds d.1) ∷ []) rest main) h in
    sound_after (ds ++ (d.0, known_of ds d.1) ∷ []) rest main
    (sound_more ds d.0 (known_of ds d.1) s (def_sound ds s d.1 none.0)) none.1

checked_typed : (program : Term.ProgramTree) (o : Option Failure) (l : FormTree) → first_failure program ≡ o
    → accepted (form_without_failure program o) ≡ Some l → is_typed l ≡ true
checked_typed program None l is h =
    let same : main_form program ≡ l = cc in
    subst (λ g. is_typed g ≡ true) same
    (first (is_typed (main_form program)) _ (sound_after [] program.definitions program.main refl is))
checked_typed program (Some failure) l is h = cc

result_typed : (r : Result Term.ProgramTree ProgramCause) (l : FormTree) → accepted (form_of_program r) ≡ Some l
    → is_typed l ≡ true
result_typed (Ok program) l h = checked_typed program (first_failure program) l refl h
result_typed (Err fault) l h = cc

text_typed : (o : Option FormTree) (k : ℕ) (x : FormTree × ℕ) → ((l : FormTree) → o ≡ Some l → is_typed l ≡ true)
    → option_map {U = FormTree × ℕ} (λ (l : FormTree). (l, k)) o ≡ Some x → is_typed x.0 ≡ true
text_typed (Some l) k x all h =
    let pair : (l, k) ≡ x = cc in
    subst (λ (p : FormTree × ℕ). is_typed p.0 ≡ true) pair (all l refl)
text_typed None k x all h = cc

opening_typed : (o : Option (List ℕ × ℕ)) (x : FormTree × ℕ) → option_and_then with_form o ≡ Some x → is_typed x.0
    ≡ true
opening_typed (Some y) x h = text_typed (form_of_text y.0) y.1 x (λ l e. result_typed (unbounded y.0) l e) h
opening_typed None x h = cc

-- ---- the other records leave the form

module _ (n : ℕ) (s u : Standing) where
  if_version : (b : Bool) → cond b (Ok (record s { version = 2 })) (Err (BadRecord n)) ≡ Ok u → s.form ≡ u.form
  if_version true h = let same : record s { version = 2 } ≡ u = cc in ap (λ (x : Standing). x.form) same
  if_version false h = cc

  if_change : (b : Bool) (o : Option AllStepped) → cond b (Err (BadRecord n)) (after_step n s o) ≡ Ok u → s.form
      ≡ u.form
  if_change true o h = cc
  if_change false (Some (Ok made)) h =
      let same : record s { triple = made.0; count = s.count + 1 } ≡ u = cc in
      ap (λ (x : Standing). x.form) same
  if_change false (Some (Err why)) h = cc
  if_change false None h = cc

  if_consistent : (b : Bool) (t : TripleTree) → cond b (Ok (record s { triple = t })) (Err (NotConsistent n)) ≡ Ok u
      → s.form ≡ u.form
  if_consistent true t h =
      let same : record s { triple = t } ≡ u = cc in
      ap (λ (x : Standing). x.form) same
  if_consistent false t h = cc

  if_triple : (o : Option TripleTree) → after_triple n s o ≡ Ok u → s.form ≡ u.form
  if_triple (Some t) h = if_consistent (is_consistent s.form t.left t.comp t.right) t h
  if_triple None h = cc

  pub form_stays : (r : Option RecordTree) → after_record n s r ≡ Ok u → s.form ≡ u.form
  form_stays None h = cc
  form_stays (Some version_record) h = if_version (nat_eq s.version 1) h
  form_stays (Some (change_record change)) h =
      if_change (is_too_new change s.version) (step_of s.form s.triple change) h
  form_stays (Some (snapshot_record p)) h = if_triple (triple_of s.form p) h

pub first_typed : (p : List ℕ) (x : FormTree × ℕ) → lens_and_version p ≡ Some x → is_typed x.0 ≡ true
first_typed p x h = opening_typed (opening_of_payload p) x h

abbrev HasTypedForm : Standing → Type 0
HasTypedForm s = is_typed s.form ≡ true

pub typed_stood : (ps : List (List ℕ)) (s : Standing) → stands ps ≡ Ok s → is_typed s.form ≡ true
typed_stood =
    all_stood HasTypedForm (λ n s t r k h. subst (λ l. is_typed l ≡ true) (form_stays n s t r h) k) first_typed
