-- The characters of a text from a place on, as the code takes them one by one.
use Rattle.std.proofs.Common.{◌≡◌, ℕ, zero, suc, ◌-◌, ◌<◌, ◌≤◌, List, [], ◌∷◌, ◌++◌, length, map, take, drop, refl, sym, ap, ◌∙◌, arith}
use Rattle.std.specs.Prelude.{encode_utf8, encode_utf8_all}
use Rattle.std.specs.Str.{chars}
use Rattle.edit_inverse.specs.Inverse.{cut_out}
use Rattle.std.proofs.lemmas.List.{append-nil}
use Rattle.std.proofs.lemmas.Str.{encodes-append, chars_from_encodes}

-- one more item is the last of what is taken
at-end : (ys : List ℕ) (c k : ℕ) → length ys < k → take k (ys ++ c ∷ []) ≡ take k ys ++ c ∷ []
at-end ys c zero h = absurd (omega arith)
at-end [] c (suc zero) h = refl
at-end [] c (suc (suc k)) h = refl
at-end (y ∷ ys) c (suc k) h = ap (λ (l : List ℕ). y ∷ l) (at-end ys c k (omega arith))

in-part : (ys : List ℕ) (c i k : ℕ) → i ≤ length ys → length ys - i < k → take k (drop i (ys ++ c ∷ [])) ≡ take k (drop i ys) ++ c ∷ []
in-part ys c zero k h e = at-end ys c k (omega arith)
in-part [] c (suc i) k h e = absurd (omega arith)
in-part (y ∷ ys) c (suc i) k h e = in-part ys c i k (omega arith) (omega arith)

-- the bytes of what is taken
pub taken-character : (ys bytes new : List ℕ) (c i k : ℕ) → i ≤ length ys → length ys - i < k → bytes ≡ encode_utf8_all (take k (drop i ys)) → new ≡ bytes ++ encode_utf8 c
    → new ≡ encode_utf8_all (take k (drop i (ys ++ c ∷ [])))
taken-character ys bytes new c i k h m e made =
    made
    ∙ (ap (λ (l : List ℕ). l ++ encode_utf8 c) e
    ∙ (ap (λ (l : List ℕ). encode_utf8_all (take k (drop i ys)) ++ l) (sym (append-nil (encode_utf8 c)))
    ∙ (sym (encodes-append (take k (drop i ys)) (c ∷ []))
    ∙ ap encode_utf8_all (sym (in-part ys c i k h m)))))

-- all characters were seen
same-list : (xs : List ℕ) → map (λ (c : ℕ). c) xs ≡ xs
same-list [] = refl
same-list (x ∷ xs) = ap (λ (l : List ℕ). x ∷ l) (same-list xs)

pub taken-all : (s ys bytes : List ℕ) (i k : ℕ) → map (λ (c : ℕ). c) ys ≡ chars s → bytes ≡ encode_utf8_all (take k (drop i ys)) → bytes ≡ cut_out s i k
taken-all s ys bytes i k all e =
    let same : ys ≡ chars s = sym (same-list ys) ∙ all in
    e ∙ ap (λ (l : List ℕ). encode_utf8_all (take k (drop i l))) same

pub ruleset count_rules = (chars_from_encodes)
