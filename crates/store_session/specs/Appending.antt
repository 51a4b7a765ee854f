-- One more payload goes on from what stands before it.
-- Lemmas, which stand here since the laws of an `impl` cite them.
use Rattle.std.proofs.Common.{◌≡◌, ℕ, suc, ◌+◌, List, [], ◌∷◌, ◌++◌, length, Option, Some, None, Result, Ok, Err}
use Rattle.std.proofs.Common.{refl, ap, ◌∙◌, arith}
use Rattle.lens_forms.specs.Forms.{FormTree}
use Rattle.store_records.specs.RecordJson.{record_in}
use Rattle.store_records.specs.StoredLens.{lens_and_version}
use Rattle.store_records.specs.declared.record_fault.RecordFault.{RecordFault}
use Rattle.store_session.specs.Stands.{Standing, going_on, after_record, after_payloads, at_start, from_opening, stands}

going_on_nowhere : (r : Result Standing RecordFault) → going_on (λ t. Ok t) r ≡ r
going_on_nowhere (Ok t) = refl
going_on_nowhere (Err fault) = refl

-- the record of a payload with this number
abbrev next_record : List ℕ → ℕ → Standing → Result Standing RecordFault
next_record p number t = after_record number t (record_in p)

append_step : (p : List ℕ) (n m : ℕ) (ps : List (List ℕ)) (r : Result Standing RecordFault)
    → ((t : Standing) → after_payloads (n + 1) t (ps ++ p ∷ [])
    ≡ going_on (next_record p m) (after_payloads (n + 1) t ps))
    → going_on (λ t. after_payloads (n + 1) t (ps ++ p ∷ [])) r
    ≡ going_on (next_record p m) (going_on (λ t. after_payloads (n + 1) t ps) r)
append_step p n m ps (Ok t) h = h t
append_step p n m ps (Err fault) h = refl

pub after_append : (n m : ℕ) (s : Standing) (ps : List (List ℕ)) (p : List ℕ) → m ≡ n + length ps
    → after_payloads n s (ps ++ p ∷ []) ≡ going_on (next_record p m) (after_payloads n s ps)
after_append n m s [] p e =
    let same : n ≡ m = omega (arith, e) in
    going_on_nowhere (after_record n s (record_in p)) ∙ ap (λ k. next_record p k s) same
after_append n m s (q ∷ ps) p e =
    append_step p n m ps (after_record n s (record_in q)) (λ t. after_append (n + 1) m t ps p (omega (arith, e)))

from_append : (ps : List (List ℕ)) (p : List ℕ) (o : Option (FormTree × ℕ)) (s : Standing) → from_opening ps o ≡ Ok s
    → from_opening (ps ++ p ∷ []) o ≡ after_record (suc (length ps) + 1) s (record_in p)
from_append ps p (Some o) s h =
    after_append 2 (suc (length ps) + 1) (at_start o) ps p (omega arith)
    ∙ ap (going_on (next_record p (suc (length ps) + 1))) h
from_append ps p None s h = cc

pub stands_append : (ps : List (List ℕ)) (p : List ℕ) (s : Standing) → stands ps ≡ Ok s → stands (ps ++ p ∷ [])
    ≡ after_record (length ps + 1) s (record_in p)
stands_append [] p s h = cc
stands_append (q ∷ ps) p s h = from_append ps p (lens_and_version q) s h
