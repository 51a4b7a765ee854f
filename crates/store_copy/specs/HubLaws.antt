-- A snapshot behind what the store of a hub keeps stands for its state, and that of an earlier state for that one.
-- Lemmas, which stand here since the laws of an `impl` cite them.
use Rattle.std.proofs.Common.{◌≡◌, ℕ, ◌<◌, List, [], ◌∷◌, ◌++◌, Option, Some, None, Result, Ok, Err, sym}
use Rattle.std.proofs.Common.{ap, subst, ◌∙◌, arith}
use Rattle.edit_journal.specs.EntryJson.{tree_of_text}
use Rattle.lens_forms.specs.Forms.{FormTree}
use Rattle.store_records.specs.declared.record_fault.RecordFault.{RecordFault}
use Rattle.view_hub.specs.Laws.{IsHub}
use Rattle.hub_run.specs.FormLenses.{form_lens}
use Rattle.hub_run.specs.FoundLenses.{AllTyped}
use Rattle.hub_run.specs.Runs.{HubState}
use Rattle.hub_records.proofs.WrittenStands.{hub_stands}
use Rattle.hub_records.specs.HubRecords.{tree_of_hub_snapshot}
use Rattle.hub_records.specs.HubStands.{HubStanding, stands_as_hub}
use Rattle.hub_session.specs.HubStates.{HasHubSnapshot, hub_changes_counted, hub_counted, hub_opened_as}
use Rattle.hub_session.specs.HubStates.{hub_snapshot_text, hub_stands_for, state_of_hub}
use Rattle.hub_session.specs.PayloadLaws.{Stood, stood}
use Rattle.hub_copy.specs.KeptRecords.{KeepsViews, kept_records}
use Rattle.hub_copy.proofs.KeptStand.{first_count, kept_stand}

-- ---- a snapshot behind payloads that have the lenses of its state

-- what stands of a state, and a number of changes
abbrev counting : HubState → ℕ → HubStanding
counting t count = record { forms = t.forms; hub = t.hub; count = count }

behind : (ps : List (List ℕ)) (s : HubStanding) (t : HubState) → stands_as_hub ps ≡ Ok s → s.forms ≡ t.forms
    → HasHubSnapshot t → stands_as_hub (ps ++ hub_snapshot_text t ∷ []) ≡ Ok (counting t s.count)
behind ps s t is same has =
    hub_stands ps (hub_snapshot_text t) s is t.hub
    (subst (λ fs. tree_of_text (hub_snapshot_text t) ≡ Some (tree_of_hub_snapshot fs t.hub)) (sym same) has.reads)
    (subst AllTyped (sym same) has.typed) (subst (λ fs. IsHub form_lens fs t.hub) (sym same) has.in_step) has.whole
    ∙ ap (λ (fs : List FormTree). Ok (record { forms = fs; hub = t.hub; count = s.count })) same

-- the lenses of a state are those of what stands
stood_forms : (ps : List (List ℕ)) (t : HubState) → (k : Stood ps t) → k.s.forms ≡ t.forms
stood_forms ps t k = ap (λ (x : HubState). x.forms) k.state

-- ---- a store that is compacted

module _ (ps : List (List ℕ)) (t : HubState) (v : Option (List ℕ)) (h : hub_stands_for ps ≡ Ok (t, v))
    (has : HasHubSnapshot t) where
  compacted_by : (k : Stood ps t) → KeepsViews 1 ps k.s
      → stands_as_hub (kept_records 1 ps ++ hub_snapshot_text t ∷ []) ≡ Ok (counting t 0)
  compacted_by k m =
      behind (kept_records 1 ps) m.kept t m.stand (m.lenses ∙ stood_forms ps t k) has
      ∙ ap (λ (count : ℕ). Ok (counting t count)) (m.more.count ∙ first_count ps m.before m.stood)

  compacted : stands_as_hub (kept_records 1 ps ++ hub_snapshot_text t ∷ []) ≡ Ok (counting t 0)
  compacted =
      let k = stood ps t v h in
      compacted_by k (kept_stand 1 ps k.s (omega arith) k.is)

  pub snapshot_begins : hub_stands_for (kept_records 1 ps ++ hub_snapshot_text t ∷ []) ≡ Ok (t, None)
  snapshot_begins = ap hub_opened_as compacted

  pub snapshot_forgets : hub_changes_counted (kept_records 1 ps ++ hub_snapshot_text t ∷ []) ≡ 0
  snapshot_forgets = ap hub_counted compacted

-- ---- a store that goes back

pub earlier_stands : (number : ℕ) (ps : List (List ℕ)) (t : HubState) (v : Option (List ℕ)) → 0 < number
    → hub_stands_for ps ≡ Ok (t, v)
    → (u : HubState) × (w : Option (List ℕ)) × (hub_stands_for (kept_records number ps) ≡ Ok (u, w))
earlier_stands number ps t v some h =
    let k = stood ps t v h in
    let m = kept_stand number ps k.s some k.is in
    (state_of_hub m.kept, None, ap hub_opened_as m.stand)

-- no version is still to be stored
no_version : (r : Result HubStanding RecordFault) (t : HubState) (v : Option (List ℕ)) → hub_opened_as r ≡ Ok (t, v)
    → None ≡ v
no_version (Ok s) t v h =
    let pair : (state_of_hub s, None) ≡ (t, v) = cc in
    ap (λ (x : HubState × Option (List ℕ)). x.1) pair
no_version (Err fault) t v h = absurd cc

same_standing : (r : Result HubStanding RecordFault) (s u : HubStanding) → r ≡ Ok s → r ≡ Ok u → s ≡ u
same_standing (Ok x) s u h k = cc
same_standing (Err fault) s u h k = absurd cc

pub earlier_snapshot_stands : (number : ℕ) (ps : List (List ℕ)) (t u : HubState) (v w : Option (List ℕ)) → 0 < number
    → hub_stands_for ps ≡ Ok (t, v) → hub_stands_for (kept_records number ps) ≡ Ok (u, w) → HasHubSnapshot u
    → hub_stands_for (ps ++ hub_snapshot_text u ∷ []) ≡ Ok (u, v)
earlier_snapshot_stands number ps t u v w some h earlier has =
    let k = stood ps t v h in
    let j = stood (kept_records number ps) u w earlier in
    let m = kept_stand number ps k.s some k.is in
    let same = same_standing (stands_as_hub (kept_records number ps)) m.kept j.s m.stand j.is in
    let forms : k.s.forms ≡ u.forms =
    sym m.lenses ∙ ap (λ (x : HubStanding). x.forms) same ∙ stood_forms (kept_records number ps) u j in
    ap hub_opened_as (behind ps k.s u k.is forms has)
    ∙ ap (λ (x : Option (List ℕ)). Ok (u, x)) (no_version (stands_as_hub ps) t v h)
