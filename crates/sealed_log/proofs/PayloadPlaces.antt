-- Where the payload is in a stored record.
use Rattle.std.proofs.Common.{◌≡◌, ◌⊎◌, inl, inr, ℕ, ◌+◌, ◌-◌, ◌<◌, ◌≤◌, min, codes, decimal, List, [], ◌∷◌, ◌++◌, length, take, drop, refl, sym, ap, ap₂, ◌∙◌, arith, length-append, append_assoc, drop_at, take_at}
use Rattle.std.proofs.lemmas.Bool.{cases_lt}
use Rattle.sealed_log.specs.SealedRecords.{seal_digits, seal_head, body_head, seal_of, sealed_record, payload_start, payload_in}

between_by : (start end n : ℕ) (s : List ℕ) → end ≡ n - 1 → (end < start) ⊎ (start ≤ end)
    → take (end - min start end) (drop (min start end) s) ≡ take (n - (start + 1)) (drop start s)
between_by start end n s is (inl past) =
    let one : end - min start end ≡ 0 = omega arith in
    let other : n - (start + 1) ≡ 0 = omega arith in
    ap (λ k. take k (drop (min start end) s)) one ∙ sym (ap (λ k. take k (drop start s)) other)
between_by start end n s is (inr inside) =
    let least : min start end ≡ start = omega arith in
    let count : end - min start end ≡ n - (start + 1) = omega arith in
    ap₂ (λ k from. take k (drop from s)) count least

-- what is between a place and the last byte
pub between : (start end n : ℕ) (s : List ℕ) → end ≡ n - 1
    → take (end - min start end) (drop (min start end) s) ≡ take (n - (start + 1)) (drop start s)
between start end n s is = between_by start end n s is (cases_lt end start)

-- ---- the payload of a sealed record

-- what is before the payload
abbrev record_head : ℕ → ℕ → List ℕ
record_head seal number = (seal_head ++ seal_digits seal) ++ body_head number

record-parts : (before number : ℕ) (payload : List ℕ)
    → sealed_record before number payload ≡ record_head (seal_of before number payload) number ++ (payload ++ 125 ∷ [])
record-parts before number payload =
    sym (append_assoc (seal_head ++ seal_digits (seal_of before number payload)) (body_head number) (payload ++ 125 ∷ []))

in_parts : (head payload : List ℕ) (start : ℕ) → length head ≡ start
    → take (length (head ++ (payload ++ 125 ∷ [])) - (start + 1)) (drop start (head ++ (payload ++ 125 ∷ []))) ≡ payload
in_parts head payload start is =
    let whole : length (head ++ (payload ++ 125 ∷ [])) ≡ length head + length (payload ++ 125 ∷ []) = length-append head (payload ++ 125 ∷ []) in
    let more : length (payload ++ 125 ∷ []) ≡ length payload + 1 = length-append payload (125 ∷ []) in
    let count : length (head ++ (payload ++ 125 ∷ [])) - (start + 1) ≡ length payload = omega (arith, is, whole, more) in
    ap₂ take count (drop_at head (payload ++ 125 ∷ []) start is) ∙ take_at payload (125 ∷ []) (length payload) refl

-- it is in its place
pub payload_in-sealed : (before number : ℕ) (payload : List ℕ) → payload_in number (sealed_record before number payload) ≡ payload
payload_in-sealed before number payload =
    let head : List ℕ = record_head (seal_of before number payload) number in
    let size : length head ≡ payload_start number = length-append (seal_head ++ seal_digits (seal_of before number payload)) (body_head number) in
    ap (payload_in number) (record-parts before number payload) ∙ in_parts head payload (payload_start number) size

pub body_head-length : (number : ℕ) → length (body_head number) ≡ 21 + length (decimal number)
body_head-length number =
    let behind : length (decimal number ++ codes ",\"record\":") ≡ length (decimal number) + 10 = length-append (decimal number) (codes ",\"record\":") in
    omega (arith, behind, length-append (codes "\",\"number\":") (decimal number ++ codes ",\"record\":"))
