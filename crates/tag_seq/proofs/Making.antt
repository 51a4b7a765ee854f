-- Lists that are made of parts, and the parts of a move.
use Rattle.std.proofs.Common.{◌≡◌, ℕ, zero, suc, ◌+◌, ◌-◌, ◌<◌, List, ◌∷◌, ◌++◌, length, take, drop, get_or, refl, ap, sym, ◌∙◌, arith, length-append, length-take, length-drop, add-one}
use Rattle.std.proofs.Math.Seq.{drop-cons}
use Rattle.std.proofs.lemmas.List.{take_rest, take-append-drop}
use Rattle.std.specs.Prelude.{replicate}
use Rattle.tag_seq.specs.Tags.{moved}

pub replicate_around : (m n k x : ℕ) → k ≡ m + 1 + n → replicate m x ++ x ∷ replicate n x ≡ replicate k x
replicate_around zero n k x e = let same : suc n ≡ k = omega arith in ap (λ (j : ℕ). replicate j x) same
replicate_around (suc m) n k x e = let same : suc (m + 1 + n) ≡ k = omega arith in ap (λ (xs : List ℕ). x ∷ xs) (replicate_around m n (m + 1 + n) x refl) ∙ ap (λ (j : ℕ). replicate j x) same

pub replicate_first : (n x : ℕ) → 0 < n → x ∷ replicate (n - 1) x ≡ replicate n x
replicate_first n x h = let same : suc (n - 1) ≡ n = omega arith in ap (λ (j : ℕ). replicate j x) same

-- a list is its part before a place, the item there, and its part behind it
pub halves : (xs : List ℕ) (m : ℕ) → m < length xs → take m xs ++ get_or xs m 0 ∷ take (length xs - (m + 1)) (drop (m + 1) xs) ≡ xs
halves xs m h = rw (take_rest xs (m + 1), add-one m) (ap (λ ys. take m xs ++ ys) (sym (drop-cons xs m 0 h)) ∙ take-append-drop m xs)

pub moved_parts : (xs rest others : List ℕ) (from to tag : ℕ) → from < length xs → drop from xs ≡ tag ∷ rest → others ≡ take from xs ++ rest → take to others ++ tag ∷ drop to others ≡ moved from to xs
moved_parts xs rest others from to tag h e o =
    let s = drop-cons xs from 0 h in
    let x : get_or xs from 0 ≡ tag = cc in
    let r : drop (suc from) xs ≡ rest = cc in
    rw (o, x, r) refl

pub moved_length : (xs others front back : List ℕ) (from to tag : ℕ) → from < length xs → others ≡ take from xs ++ drop 1 (drop from xs) → front ≡ take to others → back ≡ drop to others → length (front ++ tag ∷ back) ≡ length xs
moved_length xs others front back from to tag h o f b =
    omega (arith, length-append front (tag ∷ back), ap length f, ap length b, ap length o, length-take to others, length-drop to others, length-append (take from xs) (drop 1 (drop from xs)), length-take from xs, length-drop 1 (drop from xs), length-drop from xs)
