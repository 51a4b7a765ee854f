-- Names and contents put at their places among sorted names, in whatever order they come.
use Rattle.std.proofs.Common.{◌≡◌, ◌∙◌, ℕ, zero, suc, ◌+◌, Bool, true, false, List, [], ◌∷◌, map, refl, ap, sym, subst, arith}
use Rattle.std.specs.List.{insert}
use Rattle.std.specs.Prelude.{bytes_eq, if◌then◌else◌}
use Rattle.texts.specs.Keys.{is_before, is_rising, has_name, key_rank}
use Rattle.texts.proofs.KeyOrder.{before-trans, before-total, before-differs, rising-first, rising-rest, after-member, bytes_eq-refl, rank-none, before_back}
use Rattle.lens_check.specs.ImageParts.{place_among}
use Rattle.texts.proofs.Tests.{bytes_eq-is}

-- a name put at its place
abbrev pub insert_name : List ℕ → List (List ℕ) → List (List ℕ)
insert_name n [] = n ∷ []
insert_name n (m ∷ ms) = if is_before m n then m ∷ insert_name n ms else n ∷ m ∷ ms

-- names put at their places one after another: from the last one on, and from the first one on
abbrev pub sort_names : List (List ℕ) → List (List ℕ)
sort_names [] = []
sort_names (n ∷ ns) = insert_name n (sort_names ns)

abbrev pub put_names : List (List ℕ) → List (List ℕ) → List (List ℕ)
put_names [] ms = ms
put_names (n ∷ ns) ms = put_names ns (insert_name n ms)

-- ---- the order of names

-- a name that is not before x is x or comes after it
not_before : (m x n : List ℕ) → is_before x m ≡ false → is_before x n ≡ true → is_before m n ≡ true
not_before m x n h k = go (bytes_eq m x) refl
  where
    go : (b : Bool) → bytes_eq m x ≡ b → is_before m n ≡ true
    go true e = subst (λ z. is_before z n ≡ true) (sym (bytes_eq-is m x e)) k
    go false e = before-trans m x n (before-total m x h e) k

-- ---- two names in either order

two_ways : (n m : List ℕ) (b d : Bool) (ms : List (List ℕ)) → is_before m n ≡ b → is_before n m ≡ d
    → (if b then m ∷ n ∷ ms else n ∷ m ∷ ms) ≡ (if d then n ∷ m ∷ ms else m ∷ n ∷ ms)
two_ways n m true true ms e f = let back = before_back m n e in cc
two_ways n m true false ms e f = refl
two_ways n m false true ms e f = refl
two_ways n m false false ms e f = go (bytes_eq n m) refl
  where
    go : (b : Bool) → bytes_eq n m ≡ b → n ∷ m ∷ ms ≡ m ∷ n ∷ ms
    go true k = rw (bytes_eq-is n m k) refl
    go false k = let on = before-total n m e k in cc

insert_before : (n m : List ℕ) (ms : List (List ℕ)) → is_before m n ≡ true → insert_name n (m ∷ ms) ≡ m ∷ insert_name n ms
insert_before n m ms e = rw e refl

insert_here : (n m : List ℕ) (ms : List (List ℕ)) → is_before m n ≡ false → insert_name n (m ∷ ms) ≡ n ∷ m ∷ ms
insert_here n m ms e = rw e refl

insert_swap : (n m : List ℕ) (ms : List (List ℕ)) → insert_name n (insert_name m ms) ≡ insert_name m (insert_name n ms)
insert_swap n m [] = two_ways n m (is_before m n) (is_before n m) [] refl refl
insert_swap n m (x ∷ ms) = go (is_before x n) (is_before x m) refl refl (insert_swap n m ms)
  where
    go : (b d : Bool) → is_before x n ≡ b → is_before x m ≡ d → insert_name n (insert_name m ms) ≡ insert_name m (insert_name n ms)
        → insert_name n (insert_name m (x ∷ ms)) ≡ insert_name m (insert_name n (x ∷ ms))
    go true true e f again =
        ap (insert_name n) (insert_before m x ms f) ∙ insert_before n x (insert_name m ms) e ∙ ap (λ z. x ∷ z) again
        ∙ sym (ap (insert_name m) (insert_before n x ms e) ∙ insert_before m x (insert_name n ms) f)
    go true false e f again =
        ap (insert_name n) (insert_here m x ms f) ∙ insert_before n m (x ∷ ms) (not_before m x n f e) ∙ ap (λ z. m ∷ z) (insert_before n x ms e)
        ∙ sym (ap (insert_name m) (insert_before n x ms e) ∙ insert_here m x (insert_name n ms) f)
    go false true e f again =
        ap (insert_name n) (insert_before m x ms f) ∙ insert_here n x (insert_name m ms) e
        ∙ sym (ap (insert_name m) (insert_here n x ms e) ∙ insert_before m n (x ∷ ms) (not_before n x m e f) ∙ ap (λ z. n ∷ z) (insert_before m x ms f))
    go false false e f again =
        ap (insert_name n) (insert_here m x ms f) ∙ ap (λ z. if is_before m n then m ∷ z else n ∷ m ∷ x ∷ ms) (insert_here n x ms e)
        ∙ two_ways n m (is_before m n) (is_before n m) (x ∷ ms) refl refl
        ∙ sym (ap (insert_name m) (insert_here n x ms e) ∙ ap (λ z. if is_before n m then n ∷ z else m ∷ n ∷ x ∷ ms) (insert_here m x ms f))

put_insert : (ns : List (List ℕ)) (n : List ℕ) (ms : List (List ℕ)) → put_names ns (insert_name n ms) ≡ insert_name n (put_names ns ms)
put_insert [] n ms = refl
put_insert (k ∷ ns) n ms = ap (put_names ns) (insert_swap k n ms) ∙ put_insert ns n (insert_name k ms)

-- the order in which names are put does not matter
pub put_sorted : (ns : List (List ℕ)) → put_names ns [] ≡ sort_names ns
put_sorted [] = refl
put_sorted (n ∷ ns) = put_insert ns n [] ∙ ap (insert_name n) (put_sorted ns)

-- ---- by place

-- a name put at its place, with something for each name
pub insert-place : {X : Type 0} (at : List ℕ → X) (n : List ℕ) (ms : List (List ℕ)) → insert (map at ms) (place_among n ms) (at n) ≡ map at (insert_name n ms)
insert-place at n [] = refl
insert-place at n (m ∷ ms) = go (is_before m n) (insert-place at n ms)
  where
    go : (b : Bool) → insert (map at ms) (place_among n ms) (at n) ≡ map at (insert_name n ms)
        → insert (at m ∷ map at ms) (if b then suc (place_among n ms) else 0) (at n) ≡ map at (if b then m ∷ insert_name n ms else n ∷ m ∷ ms)
    go true e = ap (λ z. at m ∷ z) e
    go false e = refl

pub insert-place-name : (n : List ℕ) (ms : List (List ℕ)) → insert ms (place_among n ms) n ≡ insert_name n ms
insert-place-name n [] = refl
insert-place-name n (m ∷ ms) = go (is_before m n) (insert-place-name n ms)
  where
    go : (b : Bool) → insert ms (place_among n ms) n ≡ insert_name n ms
        → insert (m ∷ ms) (if b then suc (place_among n ms) else 0) n ≡ (if b then m ∷ insert_name n ms else n ∷ m ∷ ms)
    go true e = ap (λ z. m ∷ z) e
    go false e = refl

-- what is seen of a list after an insertion
pub insert-map : {X Y : Type 0} (f : X → Y) (xs : List X) (i : ℕ) (y : X) → map f (insert xs i y) ≡ insert (map f xs) i (f y)
insert-map f [] zero y = refl
insert-map f [] (suc i) y = refl
insert-map f (x ∷ xs) zero y = refl
insert-map f (x ∷ xs) (suc i) y = ap (λ z. f x ∷ z) (insert-map f xs i y)

pub ruleset put_rules = (insert-map)

-- ---- the place of a name, by counting those before it

-- one more where it is before the name
abbrev pub one_before : List ℕ → List ℕ → ℕ
one_before m n = if is_before m n then 1 else 0

pub rank-more-name : (k m : List ℕ) (ms : List (List ℕ)) → key_rank k (m ∷ ms) ≡ one_before m k + key_rank k ms
rank-more-name k m ms = go (is_before m k)
  where
    go : (b : Bool) → (if b then suc (key_rank k ms) else key_rank k ms) ≡ (if b then 1 else 0) + key_rank k ms
    go true = omega arith
    go false = omega arith

pub rank-insert : (k n : List ℕ) (ms : List (List ℕ)) → key_rank k (insert_name n ms) ≡ one_before n k + key_rank k ms
rank-insert k n [] = rank-more-name k n []
rank-insert k n (m ∷ ms) = go (is_before m n) (rank-insert k n ms)
  where
    go : (b : Bool) → key_rank k (insert_name n ms) ≡ one_before n k + key_rank k ms → key_rank k (if b then m ∷ insert_name n ms else n ∷ m ∷ ms) ≡ one_before n k + key_rank k (m ∷ ms)
    go true e = omega (arith, rank-more-name k m (insert_name n ms), rank-more-name k m ms, e)
    go false e = rank-more-name k n (m ∷ ms)

pub rank-first : (n : List ℕ) (ms : List (List ℕ)) → is_rising (n ∷ ms) ≡ true → key_rank n (n ∷ ms) ≡ 0
rank-first n ms r = go (is_before n n) refl (rank-none n ms (rising-first n ms r) (rising-rest n ms r))
  where
    go : (b : Bool) → is_before n n ≡ b → key_rank n ms ≡ 0 → (if b then suc (key_rank n ms) else key_rank n ms) ≡ 0
    go true e h = let off = before-differs n n e in let same = bytes_eq-refl n in cc
    go false e h = h

-- the first of rising names is before each other one
pub before_member : (m n : List ℕ) (ms : List (List ℕ)) → is_rising (m ∷ ms) ≡ true → has_name n ms ≡ true → is_before m n ≡ true
before_member m n ms r h = after-member m n ms (rising-first m ms r) (rising-rest m ms r) h
