-- Runs of origins: their lengths, their parts, and one run after another.
use Rattle.std.proofs.Common.{◌≡◌, ℕ, zero, suc, ◌+◌, ◌-◌, ◌≤◌, ◌<◌, List, [], ◌∷◌, ◌++◌, length, map, take, drop, get_or, set, replicate, Some, refl, sym, ap, ◌∙◌, arith, append-nil}
use Rattle.std.specs.Prelude.{slice_get}
use Rattle.std.specs.List.{range_with_len}
use Rattle.std.proofs.Math.Seq.{drop-cons, drop-append-add}
use Rattle.std.proofs.lemmas.Option.{slice_get_within}
use Rattle.shared_lists.proofs.SplicedLists.{drop-at, one_more}
use mathlib.Core.Path.{subst}
use Rattle.std.proofs.lemmas.List.{drop_all, take_more, length-append, length-replicate, append_assoc}
use Rattle.std.proofs.lemmas.List.FromFn.{length-map-range_with_len}
use Rattle.hold_shapes.specs.declared.origins.Origin.{Origin}
use Rattle.hold_shapes.specs.declared.origins.Origin.TheVariants.{Old, Fresh}
use Rattle.hold_shapes.specs.Runs.{all_origins}

pub length-kept : (k n : ℕ) → length (map Old (range_with_len k n)) ≡ n
length-kept k n = length-map-range_with_len Old k n

pub length-fresh : (n : ℕ) → length (replicate n Fresh) ≡ n
length-fresh n = length-replicate n Fresh

pub kept-at : (k n i : ℕ) → i < n → slice_get (map Old (range_with_len k n)) i ≡ Some (Old (k + i))
kept-at k zero i h = absurd (omega arith)
kept-at k (suc n) zero h = let e : k + 0 ≡ k = omega arith in rw e refl
kept-at k (suc n) (suc i) h = let e : k + suc i ≡ k + 1 + i = omega arith in rw e (kept-at (k + 1) n i (omega arith))

pub fresh-at : (n i : ℕ) → i < n → slice_get (replicate n Fresh) i ≡ Some Fresh
fresh-at zero i h = absurd (omega arith)
fresh-at (suc n) zero h = refl
fresh-at (suc n) (suc i) h = fresh-at n i (omega arith)

kept-joined : (k n m : ℕ) → map Old (range_with_len k n) ++ map Old (range_with_len (k + n) m) ≡ map Old (range_with_len k (n + m))
kept-joined k zero m = let e : k + 0 ≡ k = omega arith in let z : 0 + m ≡ m = omega arith in rw (e, z) refl
kept-joined k (suc n) m =
    let e : k + suc n ≡ k + 1 + n = omega arith in let z : suc n + m ≡ suc (n + m) = omega arith in
    rw (e, z) (ap (λ os. Old k ∷ os) (kept-joined (k + 1) n m))

pub kept-on : (k l n m : ℕ) → k ≤ l → l - k ≡ n → map Old (range_with_len k (n + m)) ≡ map Old (range_with_len k n) ++ map Old (range_with_len l m)
kept-on k l n m h e = let z : l ≡ k + n = omega arith in rw z (sym (kept-joined k n m))

pub fresh-on : (n m : ℕ) → replicate (n + m) Fresh ≡ replicate n Fresh ++ replicate m Fresh
fresh-on zero m = let z : 0 + m ≡ m = omega arith in rw z refl
fresh-on (suc n) m = let z : suc n + m ≡ suc (n + m) = omega arith in rw z (ap (λ os. Fresh ∷ os) (fresh-on n m))

pub ruleset run_rules = (length-kept, length-fresh, kept-at, fresh-at, kept-on, fresh-on)

-- ---- lists of runs

pub drop_more : {X : Type 0} (xs : List X) (i : ℕ) (d : X) → i < length xs → drop i xs ≡ get_or xs i d ∷ drop (i + 1) xs
drop_more xs i d p = drop-cons xs i d p ∙ ap (λ k. get_or xs i d ∷ drop k xs) (one_more i)

pub runs_at : (rs : List (List Origin)) (i : ℕ) (r : List Origin) → i < length rs → r ≡ get_or rs i r → all_origins (drop i rs) ≡ r ++ all_origins (drop (i + 1) rs)
runs_at rs i r p e = rw (drop_more rs i r p, ← e) refl

pub all_origins-push : (rs : List (List Origin)) (r : List Origin) → all_origins (rs ++ r ∷ []) ≡ all_origins rs ++ r
all_origins-push [] r = append-nil r
all_origins-push (q ∷ rs) r = ap (λ os. q ++ os) (all_origins-push rs r) ∙ sym (append_assoc q (all_origins rs) r)

-- the last run r of at least one, in place of which there is q
pub all_origins-joined : (rs : List (List Origin)) (n : ℕ) (r q next : List Origin) → n + 1 ≡ length rs → r ≡ get_or rs n r → q ≡ r ++ next
    → all_origins (set rs n q) ≡ all_origins rs ++ next
all_origins-joined [] n r q next h e z = absurd (omega arith)
all_origins-joined (x ∷ []) zero r q next h e z =
    let y : q ≡ x ++ next = z ∙ ap (λ os. os ++ next) e in rw (append-nil q, append-nil x) y
all_origins-joined (x ∷ []) (suc n) r q next h e z = absurd (omega arith)
all_origins-joined (x ∷ y ∷ rs) zero r q next h e z = absurd (omega arith)
all_origins-joined (x ∷ y ∷ rs) (suc n) r q next h e z =
    ap (λ os. x ++ os) (all_origins-joined (y ∷ rs) n r q next (omega arith) e z) ∙ sym (append_assoc x (all_origins (y ∷ rs)) next)

pub slice_get-front : {X : Type 0} (xs ys : List X) (i : ℕ) → i < length xs → slice_get (xs ++ ys) i ≡ slice_get xs i
slice_get-front [] ys i h = absurd (omega arith)
slice_get-front (x ∷ xs) ys zero h = refl
slice_get-front (x ∷ xs) ys (suc i) h = slice_get-front xs ys i (omega arith)

pub slice_get-back : {X : Type 0} (xs ys : List X) (i : ℕ) → length xs ≤ i → slice_get (xs ++ ys) i ≡ slice_get ys (i - length xs)
slice_get-back [] ys i h = let e : i - 0 ≡ i = omega arith in rw e refl
slice_get-back (x ∷ xs) ys zero h = absurd (omega arith)
slice_get-back (x ∷ xs) ys (suc i) h = let e : suc i - suc (length xs) ≡ i - length xs = omega arith in rw e (slice_get-back xs ys i (omega arith))

pub ruleset push_rules = (all_origins-push, all_origins-joined)

pub all_origins-more : (rs : List (List Origin)) (i : ℕ) (r : List Origin) → i < length rs → r ≡ get_or rs i r → all_origins (take (i + 1) rs) ≡ all_origins (take i rs) ++ r
all_origins-more rs i r p e = rw (take_more rs i r p, ← e) (all_origins-push (take i rs) r)

-- a place of the run r, and a place behind it

pub place-inside : (rs : List (List Origin)) (i : ℕ) (r : List Origin) (n : ℕ) → i < length rs → r ≡ get_or rs i r → n < length r
    → slice_get (all_origins (drop i rs)) n ≡ slice_get r n
place-inside rs i r n p e h = rw (runs_at rs i r p e) (slice_get-front r (all_origins (drop (i + 1) rs)) n h)

pub place-behind : (rs : List (List Origin)) (i : ℕ) (r : List Origin) (n : ℕ) → i < length rs → r ≡ get_or rs i r → length r ≤ n
    → slice_get (all_origins (drop i rs)) n ≡ slice_get (all_origins (drop (i + 1) rs)) (n - length r)
place-behind rs i r n p e h = rw (runs_at rs i r p e) (slice_get-back r (all_origins (drop (i + 1) rs)) n h)

pub length-from : (rs : List (List Origin)) (i : ℕ) (r : List Origin) → i < length rs → r ≡ get_or rs i r
    → length (all_origins (drop i rs)) ≡ length r + length (all_origins (drop (i + 1) rs))
length-from rs i r p e = rw (runs_at rs i r p e) (length-append r (all_origins (drop (i + 1) rs)))

pub ruleset list_rules = (all_origins-more, place-inside, place-behind, length-from)

-- ---- what is left of the origins from place n on, counted from the run r

pub left-here : (rs : List (List Origin)) (i n : ℕ) (r : List Origin) (o : Origin) → i < length rs → r ≡ get_or rs i r → slice_get r n ≡ Some o
    → drop n (all_origins (drop i rs)) ≡ o ∷ drop (n + 1) (all_origins (drop i rs))
left-here rs i n r o p e g = drop-at (all_origins (drop i rs)) n o (place-inside rs i r n p e (slice_get_within r n o g) ∙ g)

drop-behind : {X : Type 0} (xs ys : List X) (n : ℕ) → length xs ≤ n → drop n (xs ++ ys) ≡ drop (n - length xs) ys
drop-behind xs ys n h = let e : length xs + (n - length xs) ≡ n = omega arith in subst (λ k. drop k (xs ++ ys) ≡ drop (n - length xs) ys) e (drop-append-add xs ys (n - length xs))

pub left-behind : (rs : List (List Origin)) (i n : ℕ) (r : List Origin) → i < length rs → r ≡ get_or rs i r → length r ≤ n
    → drop n (all_origins (drop i rs)) ≡ drop (n - length r) (all_origins (drop (i + 1) rs))
left-behind rs i n r p e h = rw (runs_at rs i r p e) (drop-behind r (all_origins (drop (i + 1) rs)) n h)

pub none-left : (rs : List (List Origin)) (i n : ℕ) → length rs ≤ i → drop n (all_origins (drop i rs)) ≡ []
none-left rs i n h = rw (drop_all i rs h) (drop_all n [] (omega arith))

pub ruleset iter_rules = (left-here, left-behind, none-left)
