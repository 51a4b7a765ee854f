-- The laws of a session over a store. Lemmas, which stand here since the laws of an `impl` cite them.
use Rattle.std.proofs.Common.{◌≡◌, ◌⊎◌, inl, inr, ℕ, ◌+◌, List, [], ◌∷◌, ◌++◌, length, Bool, true, false, cond, Option}
use Rattle.std.proofs.Common.{Some, None, Result, Ok, Err, refl, sym, ap, subst, ◌∙◌}
use Rattle.std.specs.Prelude.{nat_eq, IfSome}
use Rattle.std.proofs.lemmas.Bool.{eqb-true}
use Rattle.edit_module.specs.Changes.{ChangeTree, one, group}
use Rattle.edit_journal.specs.EntryJson.{change_of_line, tree_of_text}
use Rattle.edit_journal.specs.declared.line.Line.{Line}
use Rattle.edit_session.specs.Step.{TripleTree}
use Rattle.lens_forms.specs.Forms.{FormTree}
use Rattle.store_records.specs.RecordJson.{version_record, tree_of_change_record}
use Rattle.store_records.specs.declared.record_fault.RecordFault.{RecordFault}
use Rattle.store_run.specs.declared.session.StoredAnswer.{StoredAnswer}
use Rattle.store_session.specs.Stands.{Standing, after_record, stands, step_of}
use Rattle.store_session.specs.Standings.{standing}
use Rattle.store_session.specs.Written.{the_change, the_snapshot, HasRecord}
use Rattle.store_session.specs.Appending.{stands_append}
use Rattle.store_session.specs.WrittenStands.{one_stands}
use Rattle.store_session.specs.StoredStates.{StoredState, state_of, version_text, version_for, opened_as, stands_for}
use Rattle.store_session.specs.StoredStates.{counted, changes_counted, answer, ReadsAsChange, IsStep, HasSnapshot}
use Rattle.store_session.specs.StoredStates.{snapshot_text}
use Rattle.store_session.specs.AnswerSteps.{Fit, fit_of_line, Steps, kinds}
use Rattle.store_session.specs.TypedStores.{typed_stood}
use Rattle.store_session.specs.VersionRecords.{version_in}
use Rattle.store_session.specs.VersionsOfStores.{version_stood}

abbrev standing_result : FormTree → TripleTree → ℕ → Result Standing RecordFault
standing_result l x n = Ok (standing l x n 2)

abbrev Opening : Type 0
Opening = StoredState × Option (List ℕ)

-- what stands, of payloads that stand for a state
record Stood (ps : List (List ℕ)) (t : StoredState) (v : Option (List ℕ)) : Type 0 where
  pub s : Standing
  pub is : stands ps ≡ Ok s
  pub state : state_of s ≡ t
  pub version : version_for s.version ≡ v

stood_by : (ps : List (List ℕ)) (r : Result Standing RecordFault) (t : StoredState) (v : Option (List ℕ)) → stands ps
    ≡ r → opened_as r ≡ Ok (t, v) → Stood ps t v
stood_by ps (Ok s) t v e h =
    let pair : (state_of s, version_for s.version) ≡ (t, v) = cc in
    record { s = s; is = e; state = ap (λ (p : Opening). p.0) pair; version = ap (λ (p : Opening). p.1) pair }
stood_by ps (Err fault) t v e h = cc

stood : (ps : List (List ℕ)) (t : StoredState) (v : Option (List ℕ)) → stands_for ps ≡ Ok (t, v) → Stood ps t v
stood ps t v h = stood_by ps (stands ps) t v refl h

-- ---- the version

to_store : (b : Bool) (version : ℕ) (v : List ℕ) → nat_eq version 1 ≡ b → cond b (Some version_text) None ≡ Some v
    → (version ≡ 1) × (v ≡ version_text)
to_store true version v e h = let same : version_text ≡ v = cc in (eqb-true version 1 e, sym same)
to_store false version v e h = cc

none_at_one : (version : ℕ) → version_for version ≡ None → (version ≡ 1) ⊎ (version ≡ 2) → version ≡ 2
none_at_one version h (inl first) = let bad : version_for 1 ≡ None = ap version_for (sym first) ∙ h in cc
none_at_one version h (inr second) = second

-- what stands behind the version record
version_made : (ps : List (List ℕ)) (s : Standing) → stands ps ≡ Ok s → s.version ≡ 1 → stands (ps ++ version_text ∷ [])
    ≡ Ok (standing s.form s.triple s.count 2)
version_made ps s h first =
    let same : s ≡ standing s.form s.triple s.count 1 = ap (λ v. standing s.form s.triple s.count v) first in
    stands_append ps version_text s h
    ∙ ap (λ o. after_record (length ps + 1) s o) version_in
    ∙ ap (λ (x : Standing). after_record (length ps + 1) x (Some version_record)) same

module _ (ps : List (List ℕ)) (t : StoredState) (v : List ℕ) (h : stands_for ps ≡ Ok (t, Some v)) where
  behind_version : (k : Stood ps t (Some v)) → stands (ps ++ v ∷ []) ≡ Ok (standing k.s.form k.s.triple k.s.count 2)
  behind_version k =
      let p = to_store (nat_eq k.s.version 1) k.s.version v refl k.version in
      ap (λ (x : List ℕ). stands (ps ++ x ∷ [])) p.1 ∙ version_made ps k.s k.is p.0

  opened_behind : (k : Stood ps t (Some v)) → stands_for (ps ++ v ∷ []) ≡ Ok (t, None)
  opened_behind k =
      ap opened_as (behind_version k)
      ∙ ap (λ (x : StoredState). opened_as (Ok (standing x.form x.triple k.s.count 2))) k.state

  pub version_stands : stands_for (ps ++ v ∷ []) ≡ Ok (t, None)
  version_stands = opened_behind (stood ps t (Some v) h)

  counted_behind : (k : Stood ps t (Some v)) → changes_counted (ps ++ v ∷ []) ≡ changes_counted ps
  counted_behind k = ap counted (behind_version k) ∙ sym (ap counted k.is)

  pub version_counts : changes_counted (ps ++ v ∷ []) ≡ changes_counted ps
  version_counts = counted_behind (stood ps t (Some v) h)

-- ---- a change

-- the record of a change may be written at version 2
has_record : (change : ChangeTree) (version : ℕ) → Fit change → version ≡ 2 → HasRecord version change
has_record (one e) version fit two = fit
has_record (group es) version fit two = (fit.0, fit.1, two)

module _ (ps : List (List ℕ)) (t t' : StoredState) (n : ℕ) (line : Line) (a : StoredAnswer) (p : List ℕ)
    (h : stands_for ps ≡ Ok (t, None))
    (e : answer t n line ≡ Some (t', a)) (step : IsStep t n line (t', a)) (some : a.payload ≡ Some p) where
  -- the record of the change is written behind what stands
  step_behind : (s : Standing) → stands ps ≡ Ok s → state_of s ≡ t → s.version ≡ 2 → Steps t t' (change_of_line line) a
      → stands (ps ++ p ∷ []) ≡ Ok (standing t'.form t'.triple (s.count + 1) 2)
  step_behind s is state two k =
      let known : ReadsAsChange (change_of_line line) p = subst
      (λ o. IfSome o (ReadsAsChange (change_of_line line))) some step in
      let reads : tree_of_text p
      ≡ Some (tree_of_change_record k.change) = subst (λ item. ReadsAsChange item p) k.is known in
      let after = standing s.form t'.triple (s.count + 1) 2 in
      let form : t'.form ≡ s.form = ap (λ (x : StoredState). x.form) k.form
      ∙ ap (λ (x : StoredState). x.form) (sym state) in
      let made : step_of s.form s.triple k.change ≡ Some (Ok (t'.triple, k.words)) =
      subst (λ (x : StoredState). step_of x.form x.triple k.change ≡ Some (Ok (t'.triple, k.words)))
      (sym state) k.step in
      let version : after
      ≡ record s { triple = t'.triple; count = s.count + 1 } = ap (λ v. standing s.form t'.triple (s.count + 1) v)
      (sym two) in
      one_stands ps p (the_change k.change) s after (typed_stood ps s is) is reads
      (has_record k.change s.version (fit_of_line line k.change k.is) two, k.words, made, version)
      ∙ ap (λ l. standing_result l t'.triple (s.count + 1)) (sym form)

  behind_change : (k : Stood ps t None) → stands (ps ++ p ∷ []) ≡ Ok (standing t'.form t'.triple (k.s.count + 1) 2)
  behind_change k =
      let two = none_at_one k.s.version k.version (version_stood ps k.s k.is) in
      elim (kinds t n (change_of_line line) t' a e) [
        | inl r ↦ let none = r.none in cc
        | inr r ↦ step_behind k.s k.is k.state two r
      ]

  pub change_stands : stands_for (ps ++ p ∷ []) ≡ Ok (t', None)
  change_stands = ap opened_as (behind_change (stood ps t None h))

  counted_change : (k : Stood ps t None) → changes_counted (ps ++ p ∷ []) ≡ changes_counted ps + 1
  counted_change k = ap counted (behind_change k) ∙ ap (λ r. counted r + 1) (sym k.is)

  pub change_counts : changes_counted (ps ++ p ∷ []) ≡ changes_counted ps + 1
  change_counts = counted_change (stood ps t None h)

-- ---- a snapshot

module _ (ps : List (List ℕ)) (t : StoredState) (h : stands_for ps ≡ Ok (t, None)) (has : HasSnapshot t) where
  same_behind : (s : Standing) → stands ps ≡ Ok s → HasSnapshot (state_of s)
      → stands (ps ++ snapshot_text (state_of s) ∷ []) ≡ Ok s
  same_behind s stands_as k =
      one_stands ps (snapshot_text (state_of s)) (the_snapshot s.triple) s s (typed_stood ps s stands_as) stands_as
      k.reads (k.consistent, k.left_whole, k.right_whole, refl)

  behind_snapshot : (k : Stood ps t None) → stands (ps ++ snapshot_text t ∷ []) ≡ Ok k.s
  behind_snapshot k =
      subst (λ (x : StoredState). stands (ps ++ snapshot_text x ∷ []) ≡ Ok k.s) k.state
      (same_behind k.s k.is (subst HasSnapshot (sym k.state) has))

  stands_snapshot : (k : Stood ps t None) → stands_for (ps ++ snapshot_text t ∷ []) ≡ Ok (t, None)
  stands_snapshot k = ap opened_as (behind_snapshot k ∙ sym k.is) ∙ h

  pub snapshot_stands : stands_for (ps ++ snapshot_text t ∷ []) ≡ Ok (t, None)
  snapshot_stands = stands_snapshot (stood ps t None h)

  counts_snapshot : (k : Stood ps t None) → changes_counted (ps ++ snapshot_text t ∷ []) ≡ changes_counted ps
  counts_snapshot k = ap counted (behind_snapshot k ∙ sym k.is)

  pub snapshot_counts : changes_counted (ps ++ snapshot_text t ∷ []) ≡ changes_counted ps
  snapshot_counts = counts_snapshot (stood ps t None h)
