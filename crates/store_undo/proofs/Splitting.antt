-- Payloads that stand, in two parts: the first part stands, and the second goes on from it.
use Rattle.std.proofs.Common.{◌≡◌, ℕ, ◌+◌, ◌<◌, List, [], ◌∷◌, ◌++◌, length, Option, Some, None, Result, Ok, Err, refl, sym, ◌∙◌, arith}
use Rattle.lens_forms.specs.Forms.{FormTree}
use Rattle.store_records.specs.StoredLens.{lens_and_version}
use Rattle.store_records.specs.declared.record_fault.RecordFault.{RecordFault}
use Rattle.store_session.specs.Stands.{Standing, going_on, after_payloads, at_start, from_opening, stands}
use Rattle.store_session.proofs.PartsStand.{after_both}

pub went_on : (others : Standing → Result Standing RecordFault) (r : Result Standing RecordFault) (end : Standing) → going_on others r ≡ Ok end
    → (s : Standing) × (r ≡ Ok s) × (others s ≡ Ok end)
went_on others (Ok s) end h = (s, refl, h)
went_on others (Err fault) end h = cc

opening_parts : (ps qs : List (List ℕ)) (o : Option (FormTree × ℕ)) (end : Standing) → from_opening (ps ++ qs) o ≡ Ok end
    → (s : Standing) × (from_opening ps o ≡ Ok s) × (after_payloads (2 + length ps) s qs ≡ Ok end)
opening_parts ps qs (Some o) end h =
    went_on (λ u. after_payloads (2 + length ps) u qs) (after_payloads 2 (at_start o) ps) end (sym (after_both 2 (2 + length ps) (at_start o) ps qs refl) ∙ h)
opening_parts ps qs None end h = cc

-- where payloads stand, so does each first part of them that is not empty
pub stood_before : (ps qs : List (List ℕ)) (end : Standing) → 0 < length ps → stands (ps ++ qs) ≡ Ok end
    → (n : ℕ) × (s : Standing) × (stands ps ≡ Ok s) × (after_payloads n s qs ≡ Ok end)
stood_before [] qs end some h = absurd (omega (arith, some))
stood_before (p ∷ ps) qs end some h =
    let parts = opening_parts ps qs (lens_and_version p) end h in
    (2 + length ps, parts.0, parts.1, parts.2)
