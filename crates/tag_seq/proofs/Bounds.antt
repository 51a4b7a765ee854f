-- Lists of tags below a bound: what is made of such tags is below it too.
use Rattle.std.proofs.Common.{◌≡◌, ℕ, zero, suc, ◌<◌, true, List, [], ◌∷◌, ◌++◌, take, drop, get_or, refl}
use Rattle.std.specs.Prelude.{nat_lt, replicate}
use Rattle.std.specs.List.{remove}
use Rattle.std.proofs.lemmas.Bool.{ltb-true, lt-ltb, and_parts, and_from}
use Rattle.tag_seq.specs.Tags.{are_below, moved}

pub are_below-append : (n : ℕ) (xs ys : List ℕ) → are_below n xs ≡ true → are_below n ys ≡ true → are_below n (xs ++ ys) ≡ true
are_below-append n [] ys h k = k
are_below-append n (x ∷ xs) ys h k =
    let parts = and_parts (nat_lt x n) (are_below n xs) h in
    and_from (nat_lt x n) (are_below n (xs ++ ys)) parts.0 (are_below-append n xs ys parts.1 k)

pub are_below-take : (n k : ℕ) (xs : List ℕ) → are_below n xs ≡ true → are_below n (take k xs) ≡ true
are_below-take n zero xs h = refl
are_below-take n (suc k) [] h = refl
are_below-take n (suc k) (x ∷ xs) h =
    let parts = and_parts (nat_lt x n) (are_below n xs) h in
    and_from (nat_lt x n) (are_below n (take k xs)) parts.0 (are_below-take n k xs parts.1)

pub are_below-drop : (n k : ℕ) (xs : List ℕ) → are_below n xs ≡ true → are_below n (drop k xs) ≡ true
are_below-drop n zero xs h = h
are_below-drop n (suc k) [] h = refl
are_below-drop n (suc k) (x ∷ xs) h = are_below-drop n k xs (and_parts (nat_lt x n) (are_below n xs) h).1

pub are_below-replicate : (n t c : ℕ) → t < n → are_below n (replicate c t) ≡ true
are_below-replicate n t zero h = refl
are_below-replicate n t (suc c) h = and_from (nat_lt t n) (are_below n (replicate c t)) (lt-ltb t n h) (are_below-replicate n t c h)

-- the tag at a place, and past the end the tag 0
pub are_below-get_or : (n k : ℕ) (xs : List ℕ) → 0 < n → are_below n xs ≡ true → get_or xs k 0 < n
are_below-get_or n k [] z h = z
are_below-get_or n zero (x ∷ xs) z h = ltb-true x n (and_parts (nat_lt x n) (are_below n xs) h).0
are_below-get_or n (suc k) (x ∷ xs) z h = are_below-get_or n k xs z (and_parts (nat_lt x n) (are_below n xs) h).1

pub are_below-remove : (n i : ℕ) (xs : List ℕ) → are_below n xs ≡ true → are_below n (remove xs i) ≡ true
are_below-remove n i xs h = are_below-append n (take i xs) (drop (suc i) xs) (are_below-take n i xs h) (are_below-drop n (suc i) xs h)

pub are_below-moved : (n i j : ℕ) (xs : List ℕ) → 0 < n → are_below n xs ≡ true → are_below n (moved i j xs) ≡ true
are_below-moved n i j xs z h =
    let rest = are_below-remove n i xs h in
    are_below-append n (take j (remove xs i)) (get_or xs i 0 ∷ drop j (remove xs i)) (are_below-take n j (remove xs i) rest)
    (and_from (nat_lt (get_or xs i 0) n) (are_below n (drop j (remove xs i))) (lt-ltb (get_or xs i 0) n (are_below-get_or n i xs z h)) (are_below-drop n j (remove xs i) rest))
