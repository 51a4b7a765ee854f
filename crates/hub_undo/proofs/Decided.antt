-- Undoing the last changes of any payloads comes to something, or they are refused.
use Rattle.std.proofs.Common.{◌≡◌, ◌⊎◌, inl, inr, ℕ, List, Option, Some, None, Result, Ok, Err, refl, ap, ◌∙◌}
use Rattle.store_records.specs.declared.record_fault.RecordFault.{RecordFault}
use Rattle.store_records.specs.declared.record_fault.RecordFault.TheVariants as of_records
use Rattle.store_run.specs.declared.refusals.StoreRefusal.{StoreRefusal}
use Rattle.store_run.specs.declared.refusals.StoreRefusal.TheVariants.{BadRecord, NotConsistent, NothingToUndo}
use Rattle.hub_records.specs.HubChanges.{HubChangeTree}
use Rattle.hub_records.specs.HubStands.{HubStanding, stands_as_hub}
use Rattle.hub_records.proofs.StandsKnown.{stands_known}
use Rattle.hub_undo.specs.HubUndoing.{HubUndoing, last_hub_changes, hub_refusal_of, hub_undo_refusal, hub_undoing}
use Rattle.hub_undo.proofs.Makings.{is_undoing, nothing_to_undo, undoing_now}

-- one of the two is so
abbrev pub IsDecided : ℕ → List (List ℕ) → Type 0
IsDecided count held =
    ((u : HubUndoing) × (hub_undoing count held ≡ Some u)) ⊎ ((refusal : StoreRefusal) × (hub_undo_refusal count held ≡ Some refusal))

module _ (count : ℕ) (held : List (List ℕ)) where
  refused_as : (fault : RecordFault) (refusal : StoreRefusal) → stands_as_hub held ≡ Err fault → hub_refusal_of (Err fault) (last_hub_changes count held) ≡ Some refusal → IsDecided count held
  refused_as fault refusal is q = inr (refusal, ap (λ r. hub_refusal_of r (last_hub_changes count held)) is ∙ q)

  by_changes : (now : HubStanding) (o : Option (List HubChangeTree)) → stands_as_hub held ≡ Ok now → last_hub_changes count held ≡ o → IsDecided count held
  by_changes now (Some changes) is last = inl (undoing_now count held now changes is last, is_undoing count held now changes is last)
  by_changes now None is last = inr (NothingToUndo, nothing_to_undo count held now is last)

  by_standing : (r : Result HubStanding RecordFault) → stands_as_hub held ≡ r → IsDecided count held
  by_standing (Ok now) is = by_changes now (last_hub_changes count held) is refl
  by_standing (Err (of_records.BadRecord n)) is = refused_as (of_records.BadRecord n) (BadRecord n) is refl
  by_standing (Err (of_records.NotConsistent n)) is = refused_as (of_records.NotConsistent n) (NotConsistent n) is refl
  by_standing (Err of_records.NoMemory) is = absurd (stands_known held is)

  pub undone_or_refused : IsDecided count held
  undone_or_refused = by_standing (stands_as_hub held) refl
