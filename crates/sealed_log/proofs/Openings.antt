-- What the records of a log are unsealed to.
use Rattle.std.proofs.Common.{◌≡◌, ◌↔◌, ℕ, suc, ◌+◌, ◌≤◌, List, [], ◌∷◌, length, Result, Ok, Err, Option, Some, None, IfSome, refl, sym, ap, ◌∙◌, subst, arith}
use Rattle.gate_log.specs.LogBytes.{LogContent, payloads, not_a_log, bad_record, log_of}
use Rattle.gate_log.specs.LogOnDisk.{HoldsPayloads}
use Rattle.gate_log.specs.CallEnds.{NoBadRecord}
use Rattle.gate_log.specs.declared.fault.LogFault.TheVariants.{BadRecord}
use Rattle.sealed_log.specs.declared.lists.UnsealFault.{UnsealFault}
use Rattle.sealed_log.specs.declared.lists.UnsealFault.TheVariants as unsealing
use Rattle.sealed_log.specs.SealedRecords.{seal_of, opened_record}
use Rattle.sealed_log.specs.SealedLists.{sealed, unsealed, unsealed_from, unsealed_next, behind_payload, IsUnsealFault}
use Rattle.sealed_log.specs.SealedLogs.{HoldsSealed, unsealed_log, log_of_unsealed, sealed_log_of, log_fault_of}
use Rattle.sealed_log.proofs.SealedLists.{unsealed-sealed, sealed-unsealed}
use Rattle.sealed_log.proofs.Appends.{length-sealed_list}

-- what is held is what was unsealed
pub holds_sealed : (content : Option (List ℕ)) (stored held : List (List ℕ)) → unsealed stored ≡ Ok held → IfSome content (HoldsPayloads stored) → IfSome content (HoldsSealed held)
holds_sealed content stored held is h = subst (λ (all : List (List ℕ)). IfSome content (HoldsPayloads all)) (sealed-unsealed 0 1 stored held is) h

-- there are as many payloads as records
pub length_unsealed : (stored held : List (List ℕ)) → unsealed stored ≡ Ok held → length held ≡ length stored
length_unsealed stored held is = sym (ap length (sealed-unsealed 0 1 stored held is) ∙ length-sealed_list held)

-- sealed records are never bad
pub never_bad : (content : Option (List ℕ)) (stored held : List (List ℕ)) (number : ℕ) → IfSome content (HoldsPayloads stored) → IfSome content (HoldsSealed held) → unsealed stored ≡ Err number → IfSome content (λ _. ⊥)
never_bad None stored held number h s is = tt
never_bad (Some bytes) stored held number h s is =
    let same : payloads stored ≡ payloads (sealed held) = sym h ∙ s in
    let lists : stored ≡ sealed held = cc same in
    let found : Ok held ≡ Err number = sym (unsealed-sealed 0 1 held) ∙ ap unsealed (sym lists) ∙ is in
    absurd (cc found)

-- what is held is what stands
pub same_held : (content : Option (List ℕ)) (stored all held : List (List ℕ)) → unsealed stored ≡ Ok all → IfSome content (HoldsPayloads stored) → IfSome content (HoldsSealed held) → IfSome content (λ _. all ≡ held)
same_held None stored all held is h s = tt
same_held (Some bytes) stored all held is h s =
    let same : payloads stored ≡ payloads (sealed held) = sym h ∙ s in
    let lists : stored ≡ sealed held = cc same in
    let found : ◌≡◌ {A = Result (List (List ℕ)) ℕ} (Ok all) (Ok held) = sym is ∙ ap unsealed lists ∙ unsealed-sealed 0 1 held in
    cc found

-- ---- the number of a bad record

step_bad : (payload : List ℕ) (left : Result (List (List ℕ)) ℕ) (number : ℕ) → behind_payload payload left ≡ Err number → left ≡ Err number
step_bad payload (Ok rest) number e = absurd (cc e)
step_bad payload (Err n) number e = e

next_bad : (next : ℕ → Result (List (List ℕ)) ℕ) (before at : ℕ) (opened : Option (List ℕ)) (number count : ℕ)
    → ((seal : ℕ) → next seal ≡ Err number → (at + 1 ≤ number) × (number + 1 ≤ at + 1 + count)) → unsealed_next next before at opened ≡ Err number
    → (at ≤ number) × (number + 1 ≤ at + suc count)
next_bad next before at None number count behind e = let is : at ≡ number = cc e in (omega (arith, is), omega (arith, is))
next_bad next before at (Some payload) number count behind e =
    let found : (at + 1 ≤ number) × (number + 1 ≤ at + 1 + count) = behind (seal_of before at payload) (step_bad payload (next (seal_of before at payload)) number e) in
    (omega (arith, found.0), omega (arith, found.1))

bad_number : (before at : ℕ) (stored : List (List ℕ)) (number : ℕ) → unsealed_from before at stored ≡ Err number → (at ≤ number) × (number + 1 ≤ at + length stored)
bad_number before at [] number e = absurd (cc e)
bad_number before at (it ∷ rest) number e =
    next_bad (λ seal. unsealed_from seal (at + 1) rest) before at (opened_record before at it) number (length rest) (λ seal is. bad_number seal (at + 1) rest number is) e

-- it is that of one of the records
pub numbers_of : (stored : List (List ℕ)) (fault : UnsealFault) (number : ℕ) → IsUnsealFault stored fault → log_fault_of fault ≡ BadRecord number → (1 ≤ number) × (number ≤ length stored)
numbers_of stored (unsealing.BadRecord n) number refused same =
    let is : n ≡ number = cc same in
    let found : (1 ≤ n) × (n + 1 ≤ 1 + length stored) = bad_number 0 1 stored n refused in
    (omega (arith, is, found.0), omega (arith, is, found.1))
numbers_of stored unsealing.NoMemory number refused same = absurd (cc same)

-- sealed records have no such fault
pub never_bad_of : (T : Type 0) (content : Option (List ℕ)) (stored held : List (List ℕ)) (fault : UnsealFault) → IsUnsealFault stored fault
    → IfSome content (HoldsPayloads stored) → IfSome content (HoldsSealed held) → IfSome content (λ _. NoBadRecord {T = T} (Err (log_fault_of fault)))
never_bad_of T None stored held fault refused h s = tt
never_bad_of T (Some bytes) stored held unsealing.NoMemory refused h s = tt
never_bad_of T (Some bytes) stored held (unsealing.BadRecord number) refused h s = never_bad (Some bytes) stored held number h s refused

-- a fact holds of each content
pub always : (content : Option (List ℕ)) (X : Type 0) → X → IfSome content (λ _. X)
always None X x = tt
always (Some bytes) X x = x

-- ---- the log that is read

stored_is : (stored held : List (List ℕ)) (found : Result (List (List ℕ)) ℕ) → unsealed stored ≡ found → log_of_unsealed found ≡ payloads held → payloads stored ≡ payloads (sealed held)
stored_is stored held (Err number) is e = absurd (cc e)
stored_is stored held (Ok all) is e =
    let same : all ≡ held = cc e in
    ap payloads (sealed-unsealed 0 1 stored all is ∙ ap sealed same)

-- what is read as payloads are the records that these are sealed as
log_is : (log : LogContent) (held : List (List ℕ)) → unsealed_log log ≡ payloads held → log ≡ payloads (sealed held)
log_is (payloads stored) held e = stored_is stored held (unsealed stored) refl e
log_is not_a_log held e = absurd (cc e)
log_is (bad_record number) held e = absurd (cc e)

pub is_read : (held : List (List ℕ)) (bytes : List ℕ) → HoldsSealed held bytes ↔ (sealed_log_of bytes ≡ payloads held)
is_read held bytes = (λ h. ap unsealed_log h ∙ ap log_of_unsealed (unsealed-sealed 0 1 held), λ e. log_is (log_of bytes) held e)
