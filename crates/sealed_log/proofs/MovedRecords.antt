-- Records at other places than their own, and lists of records with one that is refused.
use Rattle.std.proofs.Common.{◌≡◌, ◌≢◌, ◌↔◌, ⊎_elim, ℕ, suc, ◌+◌, ◌%◌, ◌^◌, ◌<◌, codes, decimal, List, [], ◌∷◌, ◌++◌, length, slice_index, take, drop, Result, Err, Option, Some, None, refl, sym, ap, ap₂, ◌∙◌, subst, arith, append_assoc, mod-lt, zero-lt-suc, rules}
use Rattle.std.specs.List.{AllByRecursion}
use Rattle.std.proofs.lemmas.Bool.{cases_eq}
use Rattle.std.proofs.lemmas.Fmt.{decimal_injective, decimal_by_steps}
use Rattle.record_sums.specs.Bursts.{IsBytes, DifferWithin}
use Rattle.record_sums.proofs.ByteBits.{EachByte, each_byte, each_byte-append, differ-behind, differ-ahead}
use Rattle.record_sums.proofs.Noticed.{record_sum-payload, record_sum-before, record_sum-lt}
use Rattle.sealed_log.specs.SealedRecords.{seal_digits, seal_of, sealed_record, sealed_body, payload_in, opened_record}
use Rattle.sealed_log.specs.SealedLists.{sealed, sealed_from, last_seal_from, behind_payload, unsealed_next, unsealed, unsealed_from}
use Rattle.sealed_log.proofs.OpenedRecords.{opened-sealed, opened-none}
use Rattle.sealed_log.proofs.PayloadPlaces.{payload_in-sealed}
use Rattle.sealed_log.proofs.ChangedRecords.{seal_digits-injective, no_burst}

-- ---- a list of records with one that is refused

first_is : (x y : List ℕ) (xs ys : List (List ℕ)) → x ∷ xs ≡ y ∷ ys → x ≡ y
first_is x y xs ys e = cc e

rest_is : (x y : List ℕ) (xs ys : List (List ℕ)) → x ∷ xs ≡ y ∷ ys → xs ≡ ys
rest_is x y xs ys e = cc e

-- what is behind a prefix of sealed records, if no record that is there is opened
pub refused_behind : (before number : ℕ) (held front back : List (List ℕ)) → sealed_from before number held ≡ front ++ back
    → (it : List ℕ) (rest : List (List ℕ)) → ((seal : ℕ) → seal ≡ last_seal_from before number (take (length front) held) → opened_record seal (number + length front) it ≡ None)
    → unsealed_from before number (front ++ it ∷ rest) ≡ Err (number + length front)
refused_behind before number held [] back is it rest never =
    let none : number + 0 ≡ number = omega arith in
    let found : opened_record before number it ≡ None = ap (λ n. opened_record before n it) (sym none) ∙ never before refl in
    ap (unsealed_next (λ seal. unsealed_from seal (number + 1) rest) before number) found ∙ ap Err (sym none)
refused_behind before number [] (first ∷ front) back is it rest never = absurd (cc is)
refused_behind before number (payload ∷ held) (first ∷ front) back is it rest never =
    let seal : ℕ = seal_of before number payload in
    let next : ℕ → Result (List (List ℕ)) ℕ = λ s. unsealed_from s (number + 1) (front ++ it ∷ rest) in
    let one_more : number + 1 + length front ≡ number + suc (length front) = omega arith in
    let here : sealed_record before number payload ≡ first = first_is (sealed_record before number payload) first (sealed_from seal (number + 1) held) (front ++ back) is in
    let behind : sealed_from seal (number + 1) held ≡ front ++ back = rest_is (sealed_record before number payload) first (sealed_from seal (number + 1) held) (front ++ back) is in
    let opened : opened_record before number first ≡ Some payload = ap (opened_record before number) (sym here) ∙ opened-sealed before number payload in
    let never' : (s : ℕ) → s ≡ last_seal_from seal (number + 1) (take (length front) held) → opened_record s (number + 1 + length front) it ≡ None =
    λ s e. ap (λ n. opened_record s n it) one_more ∙ never s e in
    ap (unsealed_next next before number) opened
    ∙ ap (behind_payload payload) (refused_behind seal (number + 1) held front back behind it rest never')
    ∙ ap Err one_more

-- a record of a sealed list is sealed with its own number
pub record_of : (before number : ℕ) (held front back : List (List ℕ)) (it : List ℕ) → sealed_from before number held ≡ front ++ it ∷ back
    → (payload : List ℕ) × (it ≡ sealed_record (last_seal_from before number (take (length front) held)) (number + length front) payload)
record_of before number [] [] back it is = absurd (cc is)
record_of before number [] (first ∷ front) back it is = absurd (cc is)
record_of before number (payload ∷ held) [] back it is =
    let none : number ≡ number + 0 = omega arith in
    let here : sealed_record before number payload ≡ it = first_is (sealed_record before number payload) it (sealed_from (seal_of before number payload) (number + 1) held) back is in
    (payload, sym here ∙ ap (λ n. sealed_record before n payload) none)
record_of before number (payload ∷ held) (first ∷ front) back it is =
    let seal : ℕ = seal_of before number payload in
    let one_more : number + 1 + length front ≡ number + suc (length front) = omega arith in
    let found = record_of seal (number + 1) held front back it
    (rest_is (sealed_record before number payload) first (sealed_from seal (number + 1) held) (front ++ it ∷ back) is) in
    (found.0, found.1 ∙ ap (λ n. sealed_record (last_seal_from seal (number + 1) (take (length front) held)) n found.0) one_more)

-- ---- another number

-- each digit of a number
digits_all : (P : ℕ → Type 0) → ((d : ℕ) → d < 10 → P (48 + d)) → (n : ℕ) → n < 2 ^ 64 → AllByRecursion P (decimal n)
digits_all P digit n small =
    decimal_by_steps (λ k ds. AllByRecursion P ds) (λ k l. (digit k l, tt))
    (λ k ds l all. all_more ds (48 + k % 10) all (digit (k % 10) (mod-lt k (zero-lt-suc 9)))) n small
  where
    all_more : (ds : List ℕ) (b : ℕ) → AllByRecursion P ds → P b → AllByRecursion P (ds ++ b ∷ [])
    all_more [] b all p = (p, tt)
    all_more (d ∷ ds) b all p = (all.0, all_more ds b all.1 p)

abbrev IsNoComma : ℕ → Type 0
IsNoComma byte = 44 < byte

-- what is before the first comma
before_comma : (one other xs ys : List ℕ) → AllByRecursion IsNoComma one → AllByRecursion IsNoComma other → one ++ 44 ∷ xs ≡ other ++ 44 ∷ ys → one ≡ other
before_comma [] [] xs ys p q e = refl
before_comma [] (y ∷ other) xs ys p q e = let is : 44 ≡ y = ap (λ (l : List ℕ). slice_index l 0) e in absurd (omega (arith, is, q.0))
before_comma (x ∷ one) [] xs ys p q e = let is : x ≡ 44 = ap (λ (l : List ℕ). slice_index l 0) e in absurd (omega (arith, is, p.0))
before_comma (x ∷ one) (y ∷ other) xs ys p q e =
    ap₂ (λ (b : ℕ) (bytes : List ℕ). b ∷ bytes) (ap (λ (l : List ℕ). slice_index l 0) e) (before_comma one other xs ys p.1 q.1 (ap (drop 1) e))

-- the text behind the number
abbrev behind_number : List ℕ → List ℕ
behind_number payload = drop 1 (codes ",\"record\":") ++ (payload ++ codes "}")

-- a sealed record tells its number
pub sealed-number : (before m other n : ℕ) (payload payload' : List ℕ) → m < 2 ^ 64 → n < 2 ^ 64 → sealed_record before m payload ≡ sealed_record other n payload' → m ≡ n
sealed-number before m other n payload payload' lm ln e =
    let behind : (decimal m ++ codes ",\"record\":") ++ (payload ++ codes "}") ≡ (decimal n ++ codes ",\"record\":") ++ (payload' ++ codes "}") = ap (drop 28) e in
    let texts : decimal m ++ 44 ∷ behind_number payload ≡ decimal n ++ 44 ∷ behind_number payload' =
    sym (append_assoc (decimal m) (codes ",\"record\":") (payload ++ codes "}")) ∙ behind ∙ append_assoc (decimal n) (codes ",\"record\":") (payload' ++ codes "}") in
    decimal_injective m n lm ln
    (before_comma (decimal m) (decimal n) (behind_number payload) (behind_number payload')
    (digits_all IsNoComma (λ d l. omega (arith, l)) m lm) (digits_all IsNoComma (λ d l. omega (arith, l)) n ln) texts)

-- a record is not opened under another number
pub opened-moved : (before m other n : ℕ) (payload : List ℕ) → m < 2 ^ 64 → n < 2 ^ 64 → m ≢ n → opened_record before m (sealed_record other n payload) ≡ None
opened-moved before m other n payload lm ln unlike =
    opened-none before m (sealed_record other n payload) (λ payload' e. unlike (sym (sealed-number other n before m payload payload' ln lm e)))

-- a record at another place
pub moved : (held front back others before behind rest : List (List ℕ)) (it : List ℕ) → sealed held ≡ front ++ back → sealed others ≡ before ++ it ∷ behind
    → length front ≢ length before → 1 + length front < 2 ^ 64 → 1 + length before < 2 ^ 64 → unsealed (front ++ it ∷ rest) ≡ Err (1 + length front)
moved held front back others before behind rest it here there unlike lm ln =
    let own = record_of 0 1 others before behind it there in
    let apart : 1 + length front ≢ 1 + length before = λ e. unlike (omega (arith, e)) in
    refused_behind 0 1 held front back here it rest
    (λ seal is. ap (opened_record seal (1 + length front)) own.1
    ∙ opened-moved seal (1 + length front) (last_seal_from 0 1 (take (length before) others)) (1 + length before) own.0 lm ln apart)

-- ---- a changed record

-- an own record that is changed in a few bits is not opened
opened-changed : (before number : ℕ) (payload changed : List ℕ) → EachByte (sealed_record before number payload) → EachByte changed
    → DifferWithin 32 (sealed_record before number payload) changed → opened_record before number changed ≡ None
opened-changed before number payload changed h k d =
    opened-none before number changed (λ other e.
    no_burst before number payload other h (subst EachByte e k) (subst (DifferWithin 32 (sealed_record before number payload)) e d))

pub changed_burst : (held front back rest : List (List ℕ)) (it changed : List ℕ) → sealed held ≡ front ++ it ∷ back → IsBytes it → IsBytes changed → DifferWithin 32 it changed
    → unsealed (front ++ changed ∷ rest) ≡ Err (1 + length front)
changed_burst held front back rest it changed is h k d =
    let own = record_of 0 1 held front back it is in
    let place : ℕ = 1 + length front in
    let seal : ℕ = last_seal_from 0 1 (take (length front) held) in
    let refused : opened_record seal place changed ≡ None =
    opened-changed seal place own.0 changed (subst EachByte own.1 (each_byte it h)) (each_byte changed k) (subst (λ (x : List ℕ). DifferWithin 32 x changed) own.1 d) in
    refused_behind 0 1 held front (it ∷ back) is changed rest (λ s e. ap (λ x. opened_record x place changed) e ∙ refused)

-- ---- another seal before

positive : 0 < 256
positive = zero-lt-suc 255

-- a body of bytes is one of bytes
pub each_byte-body : (number : ℕ) (payload : List ℕ) → number < 2 ^ 64 → EachByte payload → EachByte (sealed_body number payload)
each_byte-body number payload small h =
    let digits : EachByte (decimal number) = digits_all (λ byte. byte < 256) (λ d l. omega (arith, l)) number small in
    let head : EachByte (codes "\",\"number\":") = search rules in
    let mid : EachByte (codes ",\"record\":") = search rules in
    let end : EachByte (codes "}") = search rules in
    each_byte-append (codes "\",\"number\":" ++ (decimal number ++ codes ",\"record\":")) (payload ++ codes "}")
    (each_byte-append (codes "\",\"number\":") (decimal number ++ codes ",\"record\":") head (each_byte-append (decimal number) (codes ",\"record\":") digits mid))
    (each_byte-append payload (codes "}") h end)

pub seal-before : (before other number : ℕ) (payload : List ℕ) → before < 2 ^ 32 → other < 2 ^ 32 → number < 2 ^ 64 → IsBytes payload → before ≢ other
    → seal_of before number payload ≢ seal_of other number payload
seal-before before other number payload l m small h unlike =
    record_sum-before before other number (sealed_body number payload) l m (each_byte-body number payload small (each_byte payload h)) unlike

pub seal-lt : (before number : ℕ) (payload : List ℕ) → number < 2 ^ 64 → IsBytes payload → seal_of before number payload < 2 ^ 32
seal-lt before number payload small h = record_sum-lt before number (sealed_body number payload) (each_byte-body number payload small (each_byte payload h))

-- the same payload, sealed behind two seals that differ, is sealed unlike
pub opened-behind_other : (before other number : ℕ) (payload : List ℕ) → before < 2 ^ 32 → other < 2 ^ 32 → number < 2 ^ 64 → IsBytes payload → before ≢ other
    → opened_record before number (sealed_record other number payload) ≡ None
opened-behind_other before other number payload l m small h unlike =
    opened-none before number (sealed_record other number payload) (λ payload' e.
    let same : payload ≡ payload' = sym (payload_in-sealed other number payload) ∙ ap (payload_in number) e ∙ payload_in-sealed before number payload' in
    let records : sealed_record other number payload ≡ sealed_record before number payload = e ∙ ap (sealed_record before number) (sym same) in
    let digits : seal_digits (seal_of other number payload) ≡ seal_digits (seal_of before number payload) = ap (λ (bytes : List ℕ). take 8 (drop 9 bytes)) records in
    seal-before before other number payload l m small h unlike
    (sym (seal_digits-injective (seal_of other number payload) (seal_of before number payload) (seal-lt other number payload small h) (seal-lt before number payload small h) digits)))

some_or_none : (payload : List ℕ) → ◌≡◌ {A = Option (List ℕ)} (Some payload) None → ⊥
some_or_none payload e = cc e

pub opened-if_same : (before other number : ℕ) (payload : List ℕ) → before < 2 ^ 32 → other < 2 ^ 32 → number < 2 ^ 64 → IsBytes payload
    → (opened_record before number (sealed_record other number payload) ≡ Some payload) ↔ (before ≡ other)
opened-if_same before other number payload l m small h = (
  λ opened. ⊎_elim (λ same. same)
      (λ unlike. absurd (some_or_none payload (sym opened ∙ opened-behind_other before other number payload l m small h unlike))) (cases_eq before other),
  λ same. ap (λ s. opened_record s number (sealed_record other number payload)) same ∙ opened-sealed other number payload,
)

-- seals that differ
pub seals_stay : (before other number : ℕ) (held : List (List ℕ)) → before < 2 ^ 32 → other < 2 ^ 32 → number + length held < 2 ^ 64 → AllByRecursion IsBytes held → before ≢ other
    → last_seal_from before number held ≢ last_seal_from other number held
seals_stay before other number [] l m small h unlike = unlike
seals_stay before other number (payload ∷ held) l m small h unlike =
    let fits : number < 2 ^ 64 = omega (arith, small) in
    seals_stay (seal_of before number payload) (seal_of other number payload) (number + 1) held
    (seal-lt before number payload fits h.0) (seal-lt other number payload fits h.0) (omega (arith, small)) h.1
    (seal-before before other number payload l m fits h.0 unlike)

pub seals_begin : (before number : ℕ) (one other : List ℕ) → number < 2 ^ 64 → IsBytes one → IsBytes other → DifferWithin 32 one other → seal_of before number one ≢ seal_of before number other
seals_begin before number one other small h k d =
    record_sum-payload before number (sealed_body number one) (sealed_body number other)
    (each_byte-body number one small (each_byte one h)) (each_byte-body number other small (each_byte other k))
    (differ-behind 32 (codes "\",\"number\":" ++ (decimal number ++ codes ",\"record\":")) (one ++ codes "}") (other ++ codes "}") (differ-ahead 32 (codes "}") one other d))
