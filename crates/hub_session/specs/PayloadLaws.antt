-- The laws of a hub over a store. Lemmas, which stand here since the laws of an `impl` cite them.
use Rattle.std.proofs.Common.{◌≡◌, inl, inr, ℕ, ◌+◌, List, [], ◌∷◌, ◌++◌, Option, Some, None, Result, Ok}
use Rattle.std.proofs.Common.{Err, refl, sym, ap, subst, ◌∙◌}
use Rattle.std.specs.Prelude.{IfSome}
use Rattle.edit_journal.specs.declared.line.Line.{Line}
use Rattle.lens_forms.specs.Forms.{FormTree}
use Rattle.view_hub.specs.Hubs.{HubTree}
use Rattle.hub_run.specs.Runs.{HubState}
use Rattle.store_records.specs.declared.record_fault.RecordFault.{RecordFault}
use Rattle.store_run.specs.declared.session.StoredAnswer.{StoredAnswer}
use Rattle.store_run.specs.declared.session.ReopenFault.{ReopenFault}
use Rattle.hub_records.specs.HubChanges.{hub_change_of_line}
use Rattle.hub_records.specs.HubStands as hubs
use Rattle.hub_records.specs.HubStands.{HubStanding, hub_step_of}
use Rattle.hub_records.proofs.HubGroups.{line_fits}
use Rattle.hub_records.proofs.WrittenStands as written
use Rattle.hub_session.specs.HubAnswers.{HubJournalItem, stored_hub_answer}
use Rattle.hub_session.specs.HubStates.{state_of_hub, hub_opened_as, hub_stands_for, hub_counted, hub_changes_counted}
use Rattle.hub_session.specs.HubStates.{ReadsAsHubChange, IsHubStep}
use Rattle.hub_session.specs.HubStates.{HasHubSnapshot, hub_snapshot_text}
use Rattle.hub_session.specs.AnswerSteps.{Steps, kinds}

-- what stands, of payloads that stand for a state
pub record Stood (ps : List (List ℕ)) (t : HubState) : Type 0 where
  pub s : HubStanding
  pub is : hubs.stands_as_hub ps ≡ Ok s
  pub state : state_of_hub s ≡ t

-- the state and the version of what was opened; of a fault these
abbrev state_or : HubState → Result (HubState × Option (List ℕ)) ReopenFault → HubState
state_or d (Ok o) = o.0
state_or d (Err fault) = d

abbrev version_or : Option (List ℕ) → Result (HubState × Option (List ℕ)) ReopenFault → Option (List ℕ)
version_or d (Ok o) = o.1
version_or d (Err fault) = d

stood_by : (ps : List (List ℕ)) (r : Result HubStanding RecordFault) (t : HubState) (v : Option (List ℕ))
    → hubs.stands_as_hub ps ≡ r → hub_opened_as r ≡ Ok (t, v) → Stood ps t
stood_by ps (Ok s) t v e h = record { s = s; is = e; state = ap (state_or t) h }
stood_by ps (Err fault) t v e h = cc

pub stood : (ps : List (List ℕ)) (t : HubState) (v : Option (List ℕ)) → hub_stands_for ps ≡ Ok (t, v) → Stood ps t
stood ps t v h = stood_by ps (hubs.stands_as_hub ps) t v refl h

-- ---- the version, which no hub has still to store

no_version : (r : Result HubStanding RecordFault) (t : HubState) (v : List ℕ) → hub_opened_as r ≡ Ok (t, Some v) → ⊥
no_version (Ok s) t v h = let none : None ≡ Some v = ap (version_or None) h in absurd cc
no_version (Err fault) t v h = cc

pub version_stands : (ps : List (List ℕ)) (t : HubState) (v : List ℕ) → hub_stands_for ps ≡ Ok (t, Some v)
    → hub_stands_for (ps ++ v ∷ []) ≡ Ok (t, None)
version_stands ps t v h = absurd (no_version (hubs.stands_as_hub ps) t v h)

pub version_counts : (ps : List (List ℕ)) (t : HubState) (v : List ℕ) → hub_stands_for ps ≡ Ok (t, Some v)
    → hub_changes_counted (ps ++ v ∷ []) ≡ hub_changes_counted ps
version_counts ps t v h = absurd (no_version (hubs.stands_as_hub ps) t v h)

-- ---- a change

abbrev with_count : List FormTree → HubTree → ℕ → HubStanding
with_count forms h count = record { forms = forms; hub = h; count = count }

module _ (ps : List (List ℕ)) (t t' : HubState) (n : ℕ) (line : Line) (a : StoredAnswer) (p : List ℕ)
    (h : hub_stands_for ps ≡ Ok (t, None))
    (e : stored_hub_answer t n line ≡ Some (t', a)) (step : IsHubStep t n line (t', a))
    (some : a.payload ≡ Some p) where
  -- the record of the change is written behind what stands
  step_behind : (s : HubStanding) → hubs.stands_as_hub ps ≡ Ok s → state_of_hub s ≡ t
      → Steps t t' (hub_change_of_line line) a
      → hubs.stands_as_hub (ps ++ p ∷ []) ≡ Ok (with_count t'.forms t'.hub (s.count + 1))
  step_behind s is state k =
      let known : ReadsAsHubChange (hub_change_of_line line) p =
      subst (λ o. IfSome o (ReadsAsHubChange (hub_change_of_line line))) some step in
      let reads : ReadsAsHubChange (Ok k.change) p = subst (λ (i : HubJournalItem). ReadsAsHubChange i p) k.is known in
      let made : hub_step_of s.forms s.hub k.change ≡ Some (Ok (t'.hub, k.words)) =
      subst (λ (x : HubState). hub_step_of x.forms x.hub k.change ≡ Some (Ok (t'.hub, k.words))) (sym state) k.step in
      let forms : s.forms ≡ t'.forms = ap (λ (x : HubState). x.forms) state ∙ sym k.forms in
      written.change_stands ps p s is k.change t'.hub k.words reads.0 (line_fits line k.change k.is) reads.1 made
      ∙ ap (λ (fs : List FormTree). Ok (with_count fs t'.hub (s.count + 1))) forms

  behind_change : (k : Stood ps t) → hubs.stands_as_hub (ps ++ p ∷ []) ≡ Ok (with_count t'.forms t'.hub (k.s.count + 1))
  behind_change k =
      elim (kinds t n (hub_change_of_line line) t' a e) [
        | inl r ↦ let none = r.none in cc
        | inr r ↦ step_behind k.s k.is k.state r
      ]

  pub change_stands : hub_stands_for (ps ++ p ∷ []) ≡ Ok (t', None)
  change_stands = ap hub_opened_as (behind_change (stood ps t None h))

  counted_change : (k : Stood ps t) → hub_changes_counted (ps ++ p ∷ []) ≡ hub_changes_counted ps + 1
  counted_change k = ap hub_counted (behind_change k) ∙ ap (λ r. hub_counted r + 1) (sym k.is)

  pub change_counts : hub_changes_counted (ps ++ p ∷ []) ≡ hub_changes_counted ps + 1
  change_counts = counted_change (stood ps t None h)

-- ---- a snapshot

module _ (ps : List (List ℕ)) (t : HubState) (h : hub_stands_for ps ≡ Ok (t, None)) (has : HasHubSnapshot t) where
  same_behind : (s : HubStanding) → hubs.stands_as_hub ps ≡ Ok s → HasHubSnapshot (state_of_hub s)
      → hubs.stands_as_hub (ps ++ hub_snapshot_text (state_of_hub s) ∷ []) ≡ Ok s
  same_behind s stands_as k =
      written.snapshot_stands ps (hub_snapshot_text (state_of_hub s)) s stands_as k.reads k.typed k.in_step k.whole

  behind_snapshot : (k : Stood ps t) → hubs.stands_as_hub (ps ++ hub_snapshot_text t ∷ []) ≡ Ok k.s
  behind_snapshot k =
      subst (λ (x : HubState). hubs.stands_as_hub (ps ++ hub_snapshot_text x ∷ []) ≡ Ok k.s) k.state
      (same_behind k.s k.is (subst HasHubSnapshot (sym k.state) has))

  stands_snapshot : (k : Stood ps t) → hub_stands_for (ps ++ hub_snapshot_text t ∷ []) ≡ Ok (t, None)
  stands_snapshot k = ap hub_opened_as (behind_snapshot k ∙ sym k.is) ∙ h

  pub snapshot_stands : hub_stands_for (ps ++ hub_snapshot_text t ∷ []) ≡ Ok (t, None)
  snapshot_stands = stands_snapshot (stood ps t None h)

  counts_snapshot : (k : Stood ps t) → hub_changes_counted (ps ++ hub_snapshot_text t ∷ []) ≡ hub_changes_counted ps
  counts_snapshot k = ap hub_counted (behind_snapshot k ∙ sym k.is)

  pub snapshot_counts : hub_changes_counted (ps ++ hub_snapshot_text t ∷ []) ≡ hub_changes_counted ps
  snapshot_counts = counts_snapshot (stood ps t None h)
