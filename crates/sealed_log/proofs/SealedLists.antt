-- Payloads that are sealed or unsealed one by one.
use Rattle.std.proofs.Common.{◌≡◌, ℕ, suc, ◌+◌, ◌<◌, List, [], ◌∷◌, ◌++◌, length, get_or, drop, Result, Ok, Err, Option, Some, None, refl, sym, ap, ap₂, ◌∙◌, arith, append_assoc}
use Rattle.std.proofs.lemmas.List.{at_drop_more}
use Rattle.sealed_log.specs.SealedRecords.{seal_of, sealed_record, opened_record}
use Rattle.sealed_log.specs.SealedLists.{sealed_from, last_seal_from, behind_payload, unsealed_next, unsealed_from}
use Rattle.sealed_log.proofs.OpenedRecords.{opened-sealed, opened-some}

-- ---- sealing

-- one payload more
pub sealed-more : (payloads out : List (List ℕ)) (before i : ℕ) (it : List ℕ) → i < length payloads → it ≡ get_or payloads i it
    → (out ++ sealed_record before (i + 1) it ∷ []) ++ sealed_from (seal_of before (i + 1) it) (i + 1 + 1) (drop (i + 1) payloads)
    ≡ out ++ sealed_from before (i + 1) (drop i payloads)
sealed-more payloads out before i it within is =
    let here : sealed_from before (i + 1) (drop i payloads) ≡ sealed_from before (i + 1) (get_or payloads i it ∷ drop (i + 1) payloads) =
    at_drop_more (sealed_from before (i + 1)) payloads i it within in
    append_assoc out (sealed_record before (i + 1) it ∷ []) (sealed_from (seal_of before (i + 1) it) (i + 1 + 1) (drop (i + 1) payloads))
    ∙ ap (λ (x : List ℕ). out ++ sealed_from before (i + 1) (x ∷ drop (i + 1) payloads)) is
    ∙ ap (λ (rest : List (List ℕ)). out ++ rest) (sym here)

-- ---- unsealing

-- the payloads with these before them, unless a record is bad
abbrev pub behind_payloads : List (List ℕ) → Result (List (List ℕ)) ℕ → Result (List (List ℕ)) ℕ
behind_payloads out (Ok rest) = Ok (out ++ rest)
behind_payloads out (Err number) = Err number

behind-one : (out : List (List ℕ)) (it : List ℕ) (rest : Result (List (List ℕ)) ℕ)
    → behind_payloads (out ++ it ∷ []) rest ≡ behind_payloads out (behind_payload it rest)
behind-one out it (Ok rest) = ap Ok (append_assoc out (it ∷ []) rest)
behind-one out it (Err number) = refl

-- one record more
pub unsealed-more : (stored out : List (List ℕ)) (before i : ℕ) (it payload : List ℕ) → i < length stored → it ≡ get_or stored i it
    → opened_record before (i + 1) it ≡ Some payload
    → behind_payloads (out ++ payload ∷ []) (unsealed_from (seal_of before (i + 1) payload) (i + 1 + 1) (drop (i + 1) stored))
    ≡ behind_payloads out (unsealed_from before (i + 1) (drop i stored))
unsealed-more stored out before i it payload within is opened =
    let next : ℕ → Result (List (List ℕ)) ℕ = λ seal. unsealed_from seal (i + 1 + 1) (drop (i + 1) stored) in
    let here : unsealed_from before (i + 1) (drop i stored) ≡ unsealed_from before (i + 1) (get_or stored i it ∷ drop (i + 1) stored) =
    at_drop_more (unsealed_from before (i + 1)) stored i it within in
    let found : unsealed_next next before (i + 1) (opened_record before (i + 1) (get_or stored i it)) ≡ behind_payload payload (next (seal_of before (i + 1) payload)) =
    ap (λ (x : List ℕ). unsealed_next next before (i + 1) (opened_record before (i + 1) x)) (sym is) ∙ ap (unsealed_next next before (i + 1)) opened in
    behind-one out payload (next (seal_of before (i + 1) payload)) ∙ ap (behind_payloads out) (sym (here ∙ found))

-- a bad record
pub unsealed-bad : (stored out : List (List ℕ)) (before i : ℕ) (it : List ℕ) → i < length stored → it ≡ get_or stored i it
    → opened_record before (i + 1) it ≡ None → behind_payloads out (unsealed_from before (i + 1) (drop i stored)) ≡ Err (i + 1)
unsealed-bad stored out before i it within is opened =
    let next : ℕ → Result (List (List ℕ)) ℕ = λ seal. unsealed_from seal (i + 1 + 1) (drop (i + 1) stored) in
    let here : unsealed_from before (i + 1) (drop i stored) ≡ unsealed_from before (i + 1) (get_or stored i it ∷ drop (i + 1) stored) =
    at_drop_more (unsealed_from before (i + 1)) stored i it within in
    let found : unsealed_next next before (i + 1) (opened_record before (i + 1) (get_or stored i it)) ≡ Err (i + 1) =
    ap (λ (x : List ℕ). unsealed_next next before (i + 1) (opened_record before (i + 1) x)) (sym is) ∙ ap (unsealed_next next before (i + 1)) opened in
    ap (behind_payloads out) (here ∙ found)

pub behind-none : (rest : Result (List (List ℕ)) ℕ) → behind_payloads [] rest ≡ rest
behind-none (Ok rest) = refl
behind-none (Err number) = refl

-- the seal of a list with one payload more
pub last_seal-more : (before number : ℕ) (out : List (List ℕ)) (payload : List ℕ)
    → last_seal_from before number (out ++ payload ∷ []) ≡ seal_of (last_seal_from before number out) (number + length out) payload
last_seal-more before number [] payload =
    let none : number ≡ number + 0 = omega arith in
    ap (λ n. seal_of before n payload) none
last_seal-more before number (first ∷ out) payload =
    let one_more : number + 1 + length out ≡ number + suc (length out) = omega arith in
    let seal : ℕ = seal_of before number first in
    last_seal-more seal (number + 1) out payload
    ∙ ap (λ n. seal_of (last_seal_from seal (number + 1) out) n payload) one_more

-- ---- both

pub unsealed-sealed : (before number : ℕ) (payloads : List (List ℕ)) → unsealed_from before number (sealed_from before number payloads) ≡ Ok payloads
unsealed-sealed before number [] = refl
unsealed-sealed before number (payload ∷ rest) =
    let seal : ℕ = seal_of before number payload in
    let next : ℕ → Result (List (List ℕ)) ℕ = λ s. unsealed_from s (number + 1) (sealed_from seal (number + 1) rest) in
    ap (unsealed_next next before number) (opened-sealed before number payload) ∙ ap (behind_payload payload) (unsealed-sealed seal (number + 1) rest)

-- what is unsealed is what its payloads are sealed as, if that holds of what is behind the first record

ok_is : (one other : List (List ℕ)) → ◌≡◌ {A = Result (List (List ℕ)) ℕ} (Ok one) (Ok other) → one ≡ other
ok_is one other same = cc same

by_rest : (before number : ℕ) (it payload : List ℕ) (rest payloads : List (List ℕ)) (left : Result (List (List ℕ)) ℕ)
    → ((found : List (List ℕ)) → left ≡ Ok found → rest ≡ sealed_from (seal_of before number payload) (number + 1) found)
    → behind_payload payload left ≡ Ok payloads → it ≡ sealed_record before number payload → it ∷ rest ≡ sealed_from before number payloads
by_rest before number it payload rest payloads (Err n) behind same opened = absurd (cc same)
by_rest before number it payload rest payloads (Ok found) behind same opened =
    ap₂ (λ (x : List ℕ) (xs : List (List ℕ)). x ∷ xs) opened (behind found refl) ∙ ap (sealed_from before number) (ok_is (payload ∷ found) payloads same)

by_opened : (before number : ℕ) (it : List ℕ) (rest payloads : List (List ℕ)) (next : ℕ → Result (List (List ℕ)) ℕ) (opened : Option (List ℕ))
    → ((seal : ℕ) (found : List (List ℕ)) → next seal ≡ Ok found → rest ≡ sealed_from seal (number + 1) found)
    → unsealed_next next before number opened ≡ Ok payloads → ((payload : List ℕ) → opened ≡ Some payload → it ≡ sealed_record before number payload)
    → it ∷ rest ≡ sealed_from before number payloads
by_opened before number it rest payloads next None behind same is = absurd (cc same)
by_opened before number it rest payloads next (Some payload) behind same is =
    let seal : ℕ = seal_of before number payload in
    by_rest before number it payload rest payloads (next seal) (behind seal) same (is payload refl)

pub sealed-unsealed : (before number : ℕ) (stored payloads : List (List ℕ)) → unsealed_from before number stored ≡ Ok payloads → stored ≡ sealed_from before number payloads
sealed-unsealed before number [] payloads e = ap (sealed_from before number) (ok_is [] payloads e)
sealed-unsealed before number (it ∷ rest) payloads e =
    by_opened before number it rest payloads (λ seal. unsealed_from seal (number + 1) rest) (opened_record before number it)
    (λ seal found is. sealed-unsealed seal (number + 1) rest found is) e (λ payload is. opened-some before number it payload is)
