-- What the first payloads of a store stand for, and what all of them stand for.
use Rattle.std.proofs.Common.{◌≡◌, ℕ, ◌+◌, ◌<◌, ◌≤◌, List, [], ◌∷◌, ◌++◌, length, take, drop, get_or, Option, Some, None, option_map, Result, Ok, Err, refl, sym, ap, ◌∙◌, arith}
use Rattle.std.proofs.lemmas.List.{take-append-drop, take_more, length-take-le}
use Rattle.lens_forms.specs.Forms.{FormTree}
use Rattle.store_records.specs.declared.record_fault.RecordFault.{RecordFault}
use Rattle.store_records.specs.declared.record_fault.RecordFault.TheVariants.{BadRecord, NotConsistent, NoMemory}
use Rattle.hub_records.specs.HubLenses.{forms_of_payload}
use Rattle.hub_records.specs.HubRecords.{hub_record_in}
use Rattle.hub_records.specs.HubStands.{HubStanding, hub_going_on, hub_after_record, hub_after_payloads, hub_at_start, hub_from_opening, stands_as_hub}
use Rattle.hub_records.specs.Outcomes.{IsStandFault}
use Rattle.hub_records.proofs.Appending.{stands_append}

-- ---- one more payload

-- the first payload alone stands for the first hub of its lenses
pub first_stands : (ps : List (List ℕ)) (p : List ℕ) (s : HubStanding) → 0 < length ps → p ≡ get_or ps 0 p → option_map hub_at_start (forms_of_payload p) ≡ Some s
    → stands_as_hub (take 1 ps) ≡ Ok s
first_stands [] p s some is h = absurd (omega arith)
first_stands (q ∷ ps) p s some is h = from_start (forms_of_payload q) s (ap (λ (x : List ℕ). option_map hub_at_start (forms_of_payload x)) (sym is) ∙ h) where
  from_start : (o : Option (List FormTree)) (s : HubStanding) → option_map hub_at_start o ≡ Some s → hub_from_opening [] o ≡ Ok s
  from_start (Some forms) s h = let same : hub_at_start forms ≡ s = cc in ap Ok same
  from_start None s h = cc

-- the next one goes on from what stands
pub next_stands : (n : ℕ) (ps : List (List ℕ)) (p : List ℕ) (s : HubStanding) → n < length ps → p ≡ get_or ps n p → stands_as_hub (take n ps) ≡ Ok s
    → stands_as_hub (take (n + 1) ps) ≡ hub_after_record (n + 1) s (hub_record_in p)
next_stands n ps p s within is h =
    let so_far = length-take-le n ps (omega (arith, within)) in
    ap stands_as_hub (take_more ps n p within ∙ ap (λ x. take n ps ++ x ∷ []) (sym is))
    ∙ (stands_append (take n ps) p s h
    ∙ ap (λ k. hub_after_record (k + 1) s (hub_record_in p)) so_far)

-- ---- the first payloads, and all

split_step : (n m : ℕ) (ps qs : List (List ℕ)) (r : Result HubStanding RecordFault)
    → ((t : HubStanding) → hub_after_payloads (n + 1) t (ps ++ qs) ≡ hub_going_on (λ u. hub_after_payloads m u qs) (hub_after_payloads (n + 1) t ps))
    → hub_going_on (λ t. hub_after_payloads (n + 1) t (ps ++ qs)) r ≡ hub_going_on (λ u. hub_after_payloads m u qs) (hub_going_on (λ t. hub_after_payloads (n + 1) t ps) r)
split_step n m ps qs (Ok t) h = h t
split_step n m ps qs (Err fault) h = refl

-- the second part is numbered on from the first
pub after_both : (n m : ℕ) (s : HubStanding) (ps qs : List (List ℕ)) → m ≡ n + length ps
    → hub_after_payloads n s (ps ++ qs) ≡ hub_going_on (λ u. hub_after_payloads m u qs) (hub_after_payloads n s ps)
after_both n m s [] qs e =
    let same : n ≡ m = omega (arith, e) in
    ap (λ (k : ℕ). hub_after_payloads k s qs) same
after_both n m s (p ∷ ps) qs e =
    split_step n m ps qs (hub_after_record n s (hub_record_in p)) (λ t. after_both (n + 1) m t ps qs (omega (arith, e)))

-- a fault of the first part is that of all
opening_fails : (ps qs : List (List ℕ)) (o : Option (List FormTree)) (fault : RecordFault) → hub_from_opening ps o ≡ Err fault → hub_from_opening (ps ++ qs) o ≡ Err fault
opening_fails ps qs (Some o) fault h =
    after_both 2 (2 + length ps) (hub_at_start o) ps qs refl ∙ ap (hub_going_on (λ u. hub_after_payloads (2 + length ps) u qs)) h
opening_fails ps qs None fault h = h

both_fail : (ps qs : List (List ℕ)) (fault : RecordFault) → 0 < length ps → stands_as_hub ps ≡ Err fault → stands_as_hub (ps ++ qs) ≡ Err fault
both_fail [] qs fault some h = absurd (omega (arith, some))
both_fail (p ∷ ps) qs fault some h = opening_fails ps qs (forms_of_payload p) fault h

part_fails : (n : ℕ) (ps : List (List ℕ)) (fault : RecordFault) → 0 < n → n ≤ length ps → stands_as_hub (take n ps) ≡ Err fault → stands_as_hub ps ≡ Err fault
part_fails n ps fault some within h =
    let so_far = length-take-le n ps within in
    ap stands_as_hub (sym (take-append-drop n ps)) ∙ both_fail (take n ps) (drop n ps) fault (omega (arith, so_far, some)) h

pub all_fail : (n : ℕ) (ps : List (List ℕ)) (fault : RecordFault) → 0 < n → n ≤ length ps → IsStandFault (stands_as_hub (take n ps)) fault → IsStandFault (stands_as_hub ps) fault
all_fail n ps (BadRecord number) some within h = part_fails n ps (BadRecord number) some within h
all_fail n ps (NotConsistent number) some within h = part_fails n ps (NotConsistent number) some within h
all_fail n ps NoMemory some within h = tt
