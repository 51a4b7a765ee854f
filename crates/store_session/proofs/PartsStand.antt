-- What the first payloads of a store stand for, and what all of them stand for.
use Rattle.std.proofs.Common.{◌≡◌, ℕ, ◌+◌, ◌<◌, ◌≤◌, List, [], ◌∷◌, ◌++◌, length, take, drop, get_or, Option, Some, None, Result, Ok, Err, refl, sym, ap, ◌∙◌, arith}
use Rattle.std.proofs.lemmas.List.{take-append-drop, take_more, length-take-le}
use Rattle.lens_forms.specs.Forms.{FormTree}
use Rattle.store_records.specs.RecordJson.{record_in}
use Rattle.store_records.specs.StoredLens.{lens_and_version, stored_lens}
use Rattle.store_records.specs.declared.record_fault.RecordFault.{RecordFault}
use Rattle.store_records.specs.declared.record_fault.RecordFault.TheVariants.{BadRecord, NotConsistent, NoMemory}
use Rattle.store_session.specs.Appending.{stands_append}
use Rattle.store_session.specs.ReopenOutcomes.{IsReopenFault}
use Rattle.store_session.specs.Stands.{Standing, going_on, after_record, after_payloads, at_start, from_opening, stands}

-- ---- one more payload

-- the first payload alone stands for the initial triple of its lens
pub first_stands : (ps : List (List ℕ)) (o : FormTree × ℕ) → stored_lens ps ≡ Some o → stands (take 1 ps) ≡ Ok (at_start o)
first_stands [] o h = cc
first_stands (p ∷ ps) o h = ap (from_opening []) h

-- the next one goes on from what stands
pub next_stands : (n : ℕ) (ps : List (List ℕ)) (p : List ℕ) (s : Standing) → n < length ps → p ≡ get_or ps n p → stands (take n ps) ≡ Ok s
    → stands (take (n + 1) ps) ≡ after_record (n + 1) s (record_in p)
next_stands n ps p s within is h =
    let so_far = length-take-le n ps (omega (arith, within)) in
    ap stands (take_more ps n p within ∙ ap (λ x. take n ps ++ x ∷ []) (sym is))
    ∙ (stands_append (take n ps) p s h
    ∙ ap (λ k. after_record (k + 1) s (record_in p)) so_far)

-- ---- the first payloads, and all

split_step : (n m : ℕ) (ps qs : List (List ℕ)) (r : Result Standing RecordFault)
    → ((t : Standing) → after_payloads (n + 1) t (ps ++ qs) ≡ going_on (λ u. after_payloads m u qs) (after_payloads (n + 1) t ps))
    → going_on (λ t. after_payloads (n + 1) t (ps ++ qs)) r ≡ going_on (λ u. after_payloads m u qs) (going_on (λ t. after_payloads (n + 1) t ps) r)
split_step n m ps qs (Ok t) h = h t
split_step n m ps qs (Err fault) h = refl

-- the second part is numbered on from the first
pub after_both : (n m : ℕ) (s : Standing) (ps qs : List (List ℕ)) → m ≡ n + length ps
    → after_payloads n s (ps ++ qs) ≡ going_on (λ u. after_payloads m u qs) (after_payloads n s ps)
after_both n m s [] qs e =
    let same : n ≡ m = omega (arith, e) in
    ap (λ (k : ℕ). after_payloads k s qs) same
after_both n m s (p ∷ ps) qs e =
    split_step n m ps qs (after_record n s (record_in p)) (λ t. after_both (n + 1) m t ps qs (omega (arith, e)))

-- a fault of the first part is that of all
opening_fails : (ps qs : List (List ℕ)) (o : Option (FormTree × ℕ)) (fault : RecordFault) → from_opening ps o ≡ Err fault → from_opening (ps ++ qs) o ≡ Err fault
opening_fails ps qs (Some o) fault h =
    after_both 2 (2 + length ps) (at_start o) ps qs refl ∙ ap (going_on (λ u. after_payloads (2 + length ps) u qs)) h
opening_fails ps qs None fault h = h

both_fail : (ps qs : List (List ℕ)) (fault : RecordFault) → 0 < length ps → stands ps ≡ Err fault → stands (ps ++ qs) ≡ Err fault
both_fail [] qs fault some h = absurd (omega (arith, some))
both_fail (p ∷ ps) qs fault some h = opening_fails ps qs (lens_and_version p) fault h

part_fails : (n : ℕ) (ps : List (List ℕ)) (fault : RecordFault) → 0 < n → n ≤ length ps → stands (take n ps) ≡ Err fault → stands ps ≡ Err fault
part_fails n ps fault some within h =
    let so_far = length-take-le n ps within in
    ap stands (sym (take-append-drop n ps)) ∙ both_fail (take n ps) (drop n ps) fault (omega (arith, so_far, some)) h

pub all_fail : (n : ℕ) (ps : List (List ℕ)) (fault : RecordFault) → 0 < n → n ≤ length ps → IsReopenFault (stands (take n ps)) fault → IsReopenFault (stands ps) fault
all_fail n ps (BadRecord number) some within h = part_fails n ps (BadRecord number) some within h
all_fail n ps (NotConsistent number) some within h = part_fails n ps (NotConsistent number) some within h
all_fail n ps NoMemory some within h = tt
