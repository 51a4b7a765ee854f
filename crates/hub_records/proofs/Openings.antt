-- What the first record makes of the payloads behind it.
use Rattle.std.proofs.Common.{◌≡◌, ℕ, ◌<◌, List, [], ◌∷◌, length, get_or, Option, Some, None, option_map, Err, refl, sym, ap, ap₂, ◌∙◌, arith}
use Rattle.lens_flat.specs.declared.flat.ReadyForm.{ReadyForm}
use Rattle.lens_forms.specs.Forms.{FormTree}
use Rattle.store_records.specs.declared.record_fault.RecordFault.{RecordFault}
use Rattle.store_records.specs.declared.record_fault.RecordFault.TheVariants.{BadRecord, NotConsistent, NoMemory}
use Rattle.hub_records.specs.HubLenses.{forms_of_payload}
use Rattle.hub_records.specs.HubStands.{hub_at_start, hub_from_opening, stands_as_hub}
use Rattle.hub_records.proofs.PartsStand.{first_stands}
use Rattle.hub_records.specs.Outcomes.{IsFirstFault, IsStandFault}
use Rattle.hub_records.specs.Views.{hub_standing}
use Rattle.view_hub.specs.Hubs.{HubTree, start_hub}
use Rattle.view_hub.specs.Views.{HubOf, hub_tree}
use Rattle.hub_run.specs.RunStates.{forms_of_lenses, ready_lens}
use Rattle.hub_run.proofs.HubStarts.{start_is}

none_starts : (ps : List (List ℕ)) (o : Option (List FormTree)) (n : ℕ) → n ≡ 1 → o ≡ None → hub_from_opening ps o ≡ Err (BadRecord n)
none_starts ps o n one none = ap (hub_from_opening ps) none ∙ ap (λ (k : ℕ). Err (BadRecord k)) (sym one)

-- a first record that is at fault is the fault of all
pub first_fails : (ps : List (List ℕ)) (p : List ℕ) (fault : RecordFault) → 0 < length ps → p ≡ get_or ps 0 p → IsFirstFault (forms_of_payload p) fault → IsStandFault (stands_as_hub ps) fault
first_fails [] p fault some is h = absurd (omega arith)
first_fails (q ∷ ps) p (BadRecord n) some is h = none_starts ps (forms_of_payload q) n h.0 (ap forms_of_payload (sym is) ∙ h.1)
first_fails (q ∷ ps) p (NotConsistent n) some is h = absurd h
first_fails (q ∷ ps) p NoMemory some is h = tt

-- what stands at the first one
pub begun : (o : Option (List FormTree)) (ls : List ReadyForm) (h : HubOf ReadyForm) → Some (forms_of_lenses ls) ≡ o → h.lenses ≡ ls → start_hub ready_lens ls ≡ Some (hub_tree h.parts)
    → option_map hub_at_start o ≡ Some (hub_standing h 0)
begun o ls h found lenses start =
    ap (option_map hub_at_start) (sym found)
    ∙ ap₂ (λ (fs : List FormTree) (x : HubTree). Some (record { forms = fs; hub = x; count = 0 })) (sym (ap forms_of_lenses lenses)) (sym (start_is ls (forms_of_lenses ls) (hub_tree h.parts) refl start))

pub ruleset first_rules = (first_stands, first_fails)
