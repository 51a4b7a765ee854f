-- One more payload goes on from what stands before it.
use Rattle.std.proofs.Common.{◌≡◌, ℕ, suc, ◌+◌, List, [], ◌∷◌, ◌++◌, length, Option, Some, None, Result, Ok, Err, refl, ap, ◌∙◌, arith}
use Rattle.lens_forms.specs.Forms.{FormTree}
use Rattle.store_records.specs.declared.record_fault.RecordFault.{RecordFault}
use Rattle.hub_records.specs.HubRecords.{hub_record_in}
use Rattle.hub_records.specs.HubLenses.{forms_of_payload}
use Rattle.hub_records.specs.HubStands.{HubStanding, hub_going_on, hub_after_record, hub_after_payloads, hub_at_start, hub_from_opening, stands_as_hub}

going_on_nowhere : (r : Result HubStanding RecordFault) → hub_going_on (λ t. Ok t) r ≡ r
going_on_nowhere (Ok t) = refl
going_on_nowhere (Err fault) = refl

-- the record of a payload with this number
abbrev next_record : List ℕ → ℕ → HubStanding → Result HubStanding RecordFault
next_record p number t = hub_after_record number t (hub_record_in p)

append_step : (p : List ℕ) (n m : ℕ) (ps : List (List ℕ)) (r : Result HubStanding RecordFault)
    → ((t : HubStanding) → hub_after_payloads (n + 1) t (ps ++ p ∷ []) ≡ hub_going_on (next_record p m) (hub_after_payloads (n + 1) t ps))
    → hub_going_on (λ t. hub_after_payloads (n + 1) t (ps ++ p ∷ [])) r ≡ hub_going_on (next_record p m) (hub_going_on (λ t. hub_after_payloads (n + 1) t ps) r)
append_step p n m ps (Ok t) h = h t
append_step p n m ps (Err fault) h = refl

after_append : (n m : ℕ) (s : HubStanding) (ps : List (List ℕ)) (p : List ℕ) → m ≡ n + length ps
    → hub_after_payloads n s (ps ++ p ∷ []) ≡ hub_going_on (next_record p m) (hub_after_payloads n s ps)
after_append n m s [] p e =
    let same : n ≡ m = omega (arith, e) in
    going_on_nowhere (hub_after_record n s (hub_record_in p)) ∙ ap (λ k. next_record p k s) same
after_append n m s (q ∷ ps) p e =
    append_step p n m ps (hub_after_record n s (hub_record_in q)) (λ t. after_append (n + 1) m t ps p (omega (arith, e)))

from_append : (ps : List (List ℕ)) (p : List ℕ) (o : Option (List FormTree)) (s : HubStanding) → hub_from_opening ps o ≡ Ok s
    → hub_from_opening (ps ++ p ∷ []) o ≡ hub_after_record (suc (length ps) + 1) s (hub_record_in p)
from_append ps p (Some o) s h =
    after_append 2 (suc (length ps) + 1) (hub_at_start o) ps p (omega arith) ∙ ap (hub_going_on (next_record p (suc (length ps) + 1))) h
from_append ps p None s h = cc

pub stands_append : (ps : List (List ℕ)) (p : List ℕ) (s : HubStanding) → stands_as_hub ps ≡ Ok s → stands_as_hub (ps ++ p ∷ []) ≡ hub_after_record (length ps + 1) s (hub_record_in p)
stands_append [] p s h = cc
stands_append (q ∷ ps) p s h = from_append ps p (forms_of_payload q) s h
