-- What the runs of origins gather.
use Rattle.std.proofs.Common.{◌≡◌, ℕ, zero, suc, ◌<◌, ◌≤◌, ◌+◌, List, [], ◌∷◌, ◌++◌, length, map, get_or, replicate, take, drop, All, Result, Ok, Err, IfOk, refl, sym, ap, ◌∙◌, arith, ◌-◌}
use Rattle.std.specs.List.{range_with_len}
use Rattle.std.proofs.lemmas.List.{get_or-map, map-append, length-map, length-append, replicate_more, append_assoc, append-nil, take_rest}
use Rattle.std.proofs.lemmas.List.Elements.{All-head}
use Rattle.std.proofs.Math.ListN.{get_or-append}
use mathlib.Core.Path.{subst}
use Rattle.hold_shapes.specs.declared.origins.Origin.{Origin}
use Rattle.hold_shapes.specs.declared.origins.Origin.TheVariants.{Old, Fresh}
use Rattle.hold_shapes.specs.Gather.{content_at, IsBelow}
use Rattle.hold_shapes.specs.Runs.{run_origins, all_origins}
use Rattle.hold_shapes.proofs.RunOrigins.{drop_more, runs_at, all_origins-push, length-kept}

tail_of : {X : Type 0} (P : X → Type 0) (x : X) (xs : List X) → All P (x ∷ xs) → All P xs
tail_of P x xs b = λ k d p. b (suc k) d (omega arith)

front_of : {X : Type 0} (P : X → Type 0) (xs ys : List X) → All P (xs ++ ys) → All P xs
front_of P xs ys b = λ k d p. subst P (get_or-append xs ys d k p) (b k d (omega (arith, length-append xs ys)))

back_of : {X : Type 0} (P : X → Type 0) (xs ys : List X) → All P (xs ++ ys) → All P ys
back_of P [] ys b = b
back_of P (x ∷ xs) ys b = back_of P xs ys (tail_of P x (xs ++ ys) b)

pub on-ok : {A E : Type 0} {P Q : A → Type 0} (r : Result A E) → ((a : A) → P a → Q a) → IfOk r P → IfOk r Q
on-ok (Ok a) f h = f a h
on-ok (Err e) f h = tt

-- ---- one run

below-end : (m k n : ℕ) → All (IsBelow m) (map Old (range_with_len k (suc n))) → k + suc n ≤ m
below-end m k zero b = let p : k < m = All-head (IsBelow m) (Old k) [] b in omega arith
below-end m k (suc n) b =
    let p = below-end m (k + 1) n (tail_of (IsBelow m) (Old k) (map Old (range_with_len (k + 1) (suc n))) b) in omega arith

-- a run of old places that is not empty ends within the old places
pub kept-within : (m k n : ℕ) → All (IsBelow m) (run_origins (Old k) n) → 0 < n → k + n ≤ m
kept-within m k zero b h = absurd (omega arith)
kept-within m k (suc n) b h = below-end m k n b

pub kept-piece : {X M : Type 0} (f : X → M) (fresh : M) (xs : List X) (k n : ℕ) → All (IsBelow (length xs)) (run_origins (Old k) n)
    → map f (take n (drop k xs)) ≡ map (content_at (map f xs) fresh) (run_origins (Old k) n)
kept-piece f fresh xs k zero b = refl
kept-piece f fresh [] k (suc n) b = let p : k < 0 = All-head (IsBelow 0) (Old k) (map Old (range_with_len (k + 1) n)) b in absurd (omega arith)
kept-piece f fresh (x ∷ xs) k (suc n) b =
    let p : k < length (x ∷ xs) = All-head (IsBelow (length (x ∷ xs))) (Old k) (map Old (range_with_len (k + 1) n)) b in
    rw (drop_more (x ∷ xs) k x p, get_or-map f (x ∷ xs) k x fresh p)
    (ap (λ ts. f (get_or (x ∷ xs) k x) ∷ ts) (kept-piece f fresh (x ∷ xs) (k + 1) n (tail_of (IsBelow (length (x ∷ xs))) (Old k) (map Old (range_with_len (k + 1) n)) b)))

pub fresh-piece : {M : Type 0} (xs : List M) (fresh : M) (n : ℕ) → map (content_at xs fresh) (run_origins Fresh n) ≡ replicate n fresh
fresh-piece xs fresh zero = refl
fresh-piece xs fresh (suc n) = ap (λ ts. fresh ∷ ts) (fresh-piece xs fresh n)

-- what has as many contents as there are origins has as many items
pub piece-length : {X M : Type 0} (f : X → M) (g : Origin → M) (xs : List X) (os : List Origin) → map f xs ≡ map g os → length xs ≡ length os
piece-length f g xs os e = sym (length-map xs f) ∙ ap length e ∙ length-map os g

pub ruleset kept_rules = (kept-within)

pub ruleset piece_rules = (kept-piece, fresh-piece, piece-length, replicate_more)

-- ---- one run after another

pub run-below : (rs : List (List Origin)) (i : ℕ) (r : List Origin) (n : ℕ) → (i < length rs) × (r ≡ get_or rs i r) → All (IsBelow n) (all_origins (drop i rs)) → All (IsBelow n) r
run-below rs i r n p b = front_of (IsBelow n) r (all_origins (drop (i + 1) rs)) (subst (All (IsBelow n)) (runs_at rs i r p.0 p.1) b)

pub rest-below : (rs : List (List Origin)) (i : ℕ) (r : List Origin) (n : ℕ) → (i < length rs) × (r ≡ get_or rs i r) → All (IsBelow n) (all_origins (drop i rs)) → All (IsBelow n) (all_origins (drop (i + 1) rs))
rest-below rs i r n p b = back_of (IsBelow n) r (all_origins (drop (i + 1) rs)) (subst (All (IsBelow n)) (runs_at rs i r p.0 p.1) b)

pub gathered-more : {X M : Type 0} (f : X → M) (g : Origin → M) (all next : List X) (rs : List (List Origin)) (i : ℕ) (r : List Origin) → (i < length rs) × (r ≡ get_or rs i r)
    → map f next ≡ map g r
    → map f all ++ map g (all_origins (drop i rs)) ≡ map g (all_origins rs)
    → map f (all ++ next) ++ map g (all_origins (drop (i + 1) rs)) ≡ map g (all_origins rs)
gathered-more f g all next rs i r p q h =
    rw (map-append f all next, q)
    (append_assoc (map f all) (map g r) (map g (all_origins (drop (i + 1) rs)))
    ∙ ap (λ ts. map f all ++ ts) (sym (map-append g r (all_origins (drop (i + 1) rs))) ∙ sym (ap (map g) (runs_at rs i r p.0 p.1)))
    ∙ h)

-- ---- old places that stay at the front and at the back

pub front-kept : (rs : List (List Origin)) (r : List Origin) (n k : ℕ) → r ≡ run_origins (Old k) n → k ≡ 0 → all_origins (r ∷ rs) ≡ run_origins (Old 0) n ++ all_origins rs
front-kept rs r n k e z = rw (e, z) refl

pub none-behind : (os : List Origin) (n : ℕ) → os ≡ os ++ run_origins (Old n) (n - n)
none-behind os n = let z : n - n ≡ 0 = omega arith in rw z (sym (append-nil os))

pub back-kept : (rs : List (List Origin)) (r : List Origin) (n k size : ℕ) → r ≡ run_origins (Old k) n → size - k ≡ n → all_origins (rs ++ r ∷ []) ≡ all_origins rs ++ run_origins (Old k) (size - k)
back-kept rs r n k size e z = rw (z, ← e) (all_origins-push rs r)

pub ruleset edge_rules = (front-kept, none-behind, back-kept)

-- the old places before one place stay at the front and those from another on at the back, with origins m between them
abbrev pub Around : ℕ → ℕ → ℕ → List Origin → List Origin → Type 0
Around n at to m os = os ≡ run_origins (Old 0) at ++ (m ++ run_origins (Old to) (n - to))

pub around-of : (n size at to : ℕ) (m behind all os : List Origin) → all ≡ os → all ≡ run_origins (Old 0) at ++ behind
    → behind ≡ m ++ run_origins (Old to) (size - to) → size ≡ n → Around n at to m os
around-of n size at to m behind all os v e h z =
    sym v ∙ (e ∙ ap (λ (ts : List Origin). run_origins (Old 0) at ++ ts) (subst (λ k. behind ≡ m ++ run_origins (Old to) (k - to)) z h))

pub below-around : (n at to : ℕ) (m os : List Origin) → Around n at to m os → All (IsBelow n) os → All (IsBelow n) m
below-around n at to m os e b =
    let front = run_origins (Old 0) at in
    let back = run_origins (Old to) (n - to) in
    let all : All (IsBelow n) (front ++ (m ++ back)) = subst (All (IsBelow n)) e b in
    front_of (IsBelow n) m back (back_of (IsBelow n) front (m ++ back) all)

pub length-around : (n at to : ℕ) (m os : List Origin) → Around n at to m os → length os ≡ at + (length m + (n - to))
length-around n at to m os e =
    omega (
      arith,
      ap length e,
      length-append (run_origins (Old 0) at) (m ++ run_origins (Old to) (n - to)),
      length-append m (run_origins (Old to) (n - to)),
      length-kept 0 at,
      length-kept to (n - to),
    )

pub gathered-around : {X M : Type 0} (f : X → M) (fresh : M) (xs inner : List X) (at to : ℕ) (m os : List Origin)
    → Around (length xs) at to m os → All (IsBelow (length xs)) os → map f inner ≡ map (content_at (map f xs) fresh) m
    → map f (take at xs ++ inner ++ drop to xs) ≡ map (content_at (map f xs) fresh) os
gathered-around f fresh xs inner at to m os e b q =
    let g = content_at (map f xs) fresh in
    let front = run_origins (Old 0) at in
    let back = run_origins (Old to) (length xs - to) in
    let all : All (IsBelow (length xs)) (front ++ (m ++ back)) = subst (All (IsBelow (length xs))) e b in
    let last : All (IsBelow (length xs)) back = back_of (IsBelow (length xs)) m back (back_of (IsBelow (length xs)) front (m ++ back) all) in
    let k : map f (take at xs) ≡ map g front = kept-piece f fresh xs 0 at (front_of (IsBelow (length xs)) front (m ++ back) all) in
    let l : map f (drop to xs) ≡ map g back = ap (map f) (sym (take_rest xs to)) ∙ kept-piece f fresh xs to (length xs - to) last in
    let parts : map f (take at xs ++ inner ++ drop to xs) ≡ map f (take at xs) ++ map f inner ++ map f (drop to xs) =
    map-append f (take at xs ++ inner) (drop to xs) ∙ ap (λ ts. ts ++ map f (drop to xs)) (map-append f (take at xs) inner) in
    let whole : map g os ≡ map g front ++ (map g m ++ map g back) =
    ap (map g) e ∙ map-append g front (m ++ back) ∙ ap (λ ts. map g front ++ ts) (map-append g m back) in
    let same : map f (take at xs) ++ map f inner ++ map f (drop to xs) ≡ map g front ++ map g m ++ map g back = cc in
    parts ∙ same ∙ append_assoc (map g front) (map g m) (map g back) ∙ sym whole
