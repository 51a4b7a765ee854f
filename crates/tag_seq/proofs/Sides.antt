-- Lists with an item between two parts, read and changed at a place of one of the parts. n is the length of the left part.
use Rattle.std.proofs.Common.{◌≡◌, ℕ, zero, suc, ◌-◌, ◌<◌, ◌≤◌, List, [], ◌∷◌, ◌++◌, length, take, drop, get_or, refl, ap, ◌∙◌, arith}
use Rattle.std.specs.Prelude.{slice_set}

pub take_left : {X : Type 0} (xs ys : List X) (n i : ℕ) → n ≡ length xs → i ≤ n → take i (xs ++ ys) ≡ take i xs
take_left xs ys n zero e h = refl
take_left [] ys n (suc i) e h = absurd (omega arith)
take_left (x ∷ xs) ys n (suc i) e h = ap (λ zs. x ∷ zs) (take_left xs ys (length xs) i refl (omega arith))

pub take_all_left : {X : Type 0} (xs ys : List X) (n : ℕ) → n ≡ length xs → take n (xs ++ ys) ≡ xs
take_all_left [] ys zero e = refl
take_all_left [] ys (suc n) e = absurd (omega arith)
take_all_left (x ∷ xs) ys zero e = absurd (omega arith)
take_all_left (x ∷ xs) ys (suc n) e = ap (λ zs. x ∷ zs) (take_all_left xs ys n (omega arith))

take_right_at : {X : Type 0} (xs ys : List X) (x : X) (i : ℕ) → length xs < i → take i (xs ++ x ∷ ys) ≡ xs ++ x ∷ take (i - length xs - 1) ys
take_right_at xs ys x zero h = absurd (omega arith)
take_right_at [] ys x (suc i) h = ap (λ k. x ∷ take k ys) (omega arith)
take_right_at (y ∷ xs) ys x (suc i) h = ap (λ zs. y ∷ zs) (take_right_at xs ys x i (omega arith) ∙ ap (λ k. xs ++ x ∷ take k ys) (omega arith))

pub take_right : {X : Type 0} (xs ys : List X) (x : X) (n i : ℕ) → n ≡ length xs → n < i → take i (xs ++ x ∷ ys) ≡ xs ++ x ∷ take (i - n - 1) ys
take_right xs ys x n i e h = take_right_at xs ys x i (omega arith) ∙ ap (λ k. xs ++ x ∷ take k ys) (omega arith)

pub drop_left : {X : Type 0} (xs ys : List X) (n i : ℕ) → n ≡ length xs → i ≤ n → drop i (xs ++ ys) ≡ drop i xs ++ ys
drop_left xs ys n zero e h = refl
drop_left [] ys n (suc i) e h = absurd (omega arith)
drop_left (x ∷ xs) ys n (suc i) e h = drop_left xs ys (length xs) i refl (omega arith)

drop_right_at : {X : Type 0} (xs ys : List X) (x : X) (i : ℕ) → length xs < i → drop i (xs ++ x ∷ ys) ≡ drop (i - length xs - 1) ys
drop_right_at xs ys x zero h = absurd (omega arith)
drop_right_at [] ys x (suc i) h = ap (λ k. drop k ys) (omega arith)
drop_right_at (y ∷ xs) ys x (suc i) h = drop_right_at xs ys x i (omega arith) ∙ ap (λ k. drop k ys) (omega arith)

pub drop_right : {X : Type 0} (xs ys : List X) (x : X) (n i : ℕ) → n ≡ length xs → n < i → drop i (xs ++ x ∷ ys) ≡ drop (i - n - 1) ys
drop_right xs ys x n i e h = drop_right_at xs ys x i (omega arith) ∙ ap (λ k. drop k ys) (omega arith)

pub get_left : {X : Type 0} (xs ys : List X) (n i : ℕ) (d : X) → n ≡ length xs → i < n → get_or (xs ++ ys) i d ≡ get_or xs i d
get_left [] ys n i d e h = absurd (omega arith)
get_left (x ∷ xs) ys n zero d e h = refl
get_left (x ∷ xs) ys n (suc i) d e h = get_left xs ys (length xs) i d refl (omega arith)

pub get_here : {X : Type 0} (xs ys : List X) (x : X) (n : ℕ) (d : X) → n ≡ length xs → get_or (xs ++ x ∷ ys) n d ≡ x
get_here [] ys x zero d e = refl
get_here [] ys x (suc n) d e = absurd (omega arith)
get_here (y ∷ xs) ys x zero d e = absurd (omega arith)
get_here (y ∷ xs) ys x (suc n) d e = get_here xs ys x n d (omega arith)

get_right_at : {X : Type 0} (xs ys : List X) (x : X) (i : ℕ) (d : X) → length xs < i → get_or (xs ++ x ∷ ys) i d ≡ get_or ys (i - length xs - 1) d
get_right_at xs ys x zero d h = absurd (omega arith)
get_right_at [] ys x (suc i) d h = ap (λ k. get_or ys k d) (omega arith)
get_right_at (y ∷ xs) ys x (suc i) d h = get_right_at xs ys x i d (omega arith) ∙ ap (λ k. get_or ys k d) (omega arith)

pub get_right : {X : Type 0} (xs ys : List X) (x : X) (n i : ℕ) (d : X) → n ≡ length xs → n < i → get_or (xs ++ x ∷ ys) i d ≡ get_or ys (i - n - 1) d
get_right xs ys x n i d e h = get_right_at xs ys x i d (omega arith) ∙ ap (λ k. get_or ys k d) (omega arith)

pub set_left : {X : Type 0} (xs ys : List X) (n i : ℕ) (v : X) → n ≡ length xs → i < n → slice_set (xs ++ ys) i v ≡ slice_set xs i v ++ ys
set_left [] ys n i v e h = absurd (omega arith)
set_left (x ∷ xs) ys n zero v e h = refl
set_left (x ∷ xs) ys n (suc i) v e h = ap (λ zs. x ∷ zs) (set_left xs ys (length xs) i v refl (omega arith))

pub set_here : {X : Type 0} (xs ys : List X) (x : X) (n : ℕ) (v : X) → n ≡ length xs → slice_set (xs ++ x ∷ ys) n v ≡ xs ++ v ∷ ys
set_here [] ys x zero v e = refl
set_here [] ys x (suc n) v e = absurd (omega arith)
set_here (y ∷ xs) ys x zero v e = absurd (omega arith)
set_here (y ∷ xs) ys x (suc n) v e = ap (λ zs. y ∷ zs) (set_here xs ys x n v (omega arith))

set_right_at : {X : Type 0} (xs ys : List X) (x : X) (i : ℕ) (v : X) → length xs < i → slice_set (xs ++ x ∷ ys) i v ≡ xs ++ x ∷ slice_set ys (i - length xs - 1) v
set_right_at xs ys x zero v h = absurd (omega arith)
set_right_at [] ys x (suc i) v h = ap (λ k. x ∷ slice_set ys k v) (omega arith)
set_right_at (y ∷ xs) ys x (suc i) v h = ap (λ zs. y ∷ zs) (set_right_at xs ys x i v (omega arith) ∙ ap (λ k. xs ++ x ∷ slice_set ys k v) (omega arith))

pub set_right : {X : Type 0} (xs ys : List X) (x : X) (n i : ℕ) (v : X) → n ≡ length xs → n < i → slice_set (xs ++ x ∷ ys) i v ≡ xs ++ x ∷ slice_set ys (i - n - 1) v
set_right xs ys x n i v e h = set_right_at xs ys x i v (omega arith) ∙ ap (λ k. xs ++ x ∷ slice_set ys k v) (omega arith)

pub ruleset side_rules = (take_left, take_all_left, take_right, drop_left, drop_right, get_left, get_here, get_right, set_left, set_here, set_right)
