-- A node is found in the same place of two trees that begin alike.
use Rattle.std.proofs.Common.{◌≡◌, ℕ, ◌+◌, ◌-◌, ◌<◌, ◌≤◌, suc, zero, Bool, true, false, List, [], ◌∷◌, ◌++◌, length, take, drop, get_or, Option, Some, None, refl, sym, ap, ◌∙◌, subst, arith}
use Rattle.std.specs.Prelude.{if◌then◌else◌, nat_lt, nat_eq}
use Rattle.hold_shapes.specs.Trees.{node, node_from, child, child_at, child_from}
use Rattle.hold_shapes.proofs.ChildPlaces.{child-at}
use Rattle.law_shapes.proofs.Content.{child-in}
use Rattle.hold_shapes.proofs.Nodes.{node_from-none}

-- the first n numbers of both lists are there, and are the same
abbrev pub SamePrefix : ℕ → List ℕ → List ℕ → Type 0
SamePrefix zero xs ys = Unit {0}
SamePrefix (suc n) [] ys = ⊥
SamePrefix (suc n) (x ∷ xs) [] = ⊥
SamePrefix (suc n) (x ∷ xs) (y ∷ ys) = (x ≡ y) × SamePrefix n xs ys

pub prefix-less : (m n : ℕ) (xs ys : List ℕ) → m ≤ n → SamePrefix n xs ys → SamePrefix m xs ys
prefix-less zero n xs ys h s = tt
prefix-less (suc m) zero xs ys h s = absurd (omega arith)
prefix-less (suc m) (suc n) [] ys h s = s
prefix-less (suc m) (suc n) (x ∷ xs) [] h s = s
prefix-less (suc m) (suc n) (x ∷ xs) (y ∷ ys) h s = (s.0, prefix-less m n xs ys (omega arith) s.1)

pub prefix-trans : (n : ℕ) (xs ys zs : List ℕ) → SamePrefix n xs ys → SamePrefix n ys zs → SamePrefix n xs zs
prefix-trans zero xs ys zs s t = tt
prefix-trans (suc n) [] ys zs s t = s
prefix-trans (suc n) (x ∷ xs) [] zs s t = absurd s
prefix-trans (suc n) (x ∷ xs) (y ∷ ys) [] s t = t
prefix-trans (suc n) (x ∷ xs) (y ∷ ys) (z ∷ zs) s t = (s.0 ∙ t.0, prefix-trans n xs ys zs s.1 t.1)

prefix-get : (n p : ℕ) (xs ys : List ℕ) → p < n → SamePrefix n xs ys → get_or xs p 0 ≡ get_or ys p 0
prefix-get zero p xs ys h s = absurd (omega arith)
prefix-get (suc n) p [] ys h s = absurd s
prefix-get (suc n) p (x ∷ xs) [] h s = absurd s
prefix-get (suc n) zero (x ∷ xs) (y ∷ ys) h s = s.0
prefix-get (suc n) (suc p) (x ∷ xs) (y ∷ ys) h s = prefix-get n p xs ys (omega arith) s.1

prefix-drop : (k m : ℕ) (xs ys : List ℕ) → SamePrefix (k + m) xs ys → SamePrefix m (drop k xs) (drop k ys)
prefix-drop zero m xs ys s = let e : 0 + m ≡ m = omega arith in let P : ℕ → Type 0 = λ n. SamePrefix n xs ys in subst P e s
prefix-drop (suc k) m [] ys s =
    let e : suc k + m ≡ suc (k + m) = omega arith in
    let P : ℕ → Type 0 = λ n. SamePrefix n [] ys in
    absurd (subst P e s)
prefix-drop (suc k) m (x ∷ xs) [] s =
    let e : suc k + m ≡ suc (k + m) = omega arith in
    let P : ℕ → Type 0 = λ n. SamePrefix n (x ∷ xs) [] in
    absurd (subst P e s)
prefix-drop (suc k) m (x ∷ xs) (y ∷ ys) s =
    let e : suc k + m ≡ suc (k + m) = omega arith in
    let P : ℕ → Type 0 = λ n. SamePrefix n (x ∷ xs) (y ∷ ys) in
    prefix-drop k m xs ys (subst P e s).1

-- a list that goes on in another way after its first n numbers
pub prefix-take : (n : ℕ) (xs zs : List ℕ) → n ≤ length xs → SamePrefix n xs (take n xs ++ zs)
prefix-take zero xs zs h = tt
prefix-take (suc n) [] zs h = absurd (omega arith)
prefix-take (suc n) (x ∷ xs) zs h = (refl, prefix-take n xs zs (omega arith))

-- ---- a child, and a node

pub child_from-step : (t u v : Bool) (at q : ℕ) (o1 o2 p1 p2 : Option ℕ) → (o1 ≡ Some q → p1 ≡ Some q) → (o2 ≡ Some q → p2 ≡ Some q)
    → (if t then (if u then (if v then Some at else o1) else o2) else None) ≡ Some q → (if t then (if u then (if v then Some at else p1) else p2) else None) ≡ Some q
child_from-step true true true at q o1 o2 p1 p2 f g h = h
child_from-step true true false at q o1 o2 p1 p2 f g h = f h
child_from-step true false v at q o1 o2 p1 p2 f g h = g h
child_from-step false u v at q o1 o2 p1 p2 f g h = h

later-same : (at d k n : ℕ) (xs ys : List ℕ) → ((m : ℕ) → child_from (at + 1) d k xs ≡ Some (at + 1 + m) → SamePrefix (suc m) xs ys → child_from (at + 1) d k ys ≡ Some (at + 1 + m))
    → SamePrefix n xs ys → child_from (at + 1) d k xs ≡ Some (at + n) → child_from (at + 1) d k ys ≡ Some (at + n)
later-same at d k n xs ys f s e =
    let up : at + 1 ≤ at + n = (child-in (at + 1) d k (at + n) xs e).0 in
    let is : at + n ≡ at + 1 + (n - 1) = omega arith in
    let more : n ≡ suc (n - 1) = omega arith in
    let Q : ℕ → Type 0 = λ m. SamePrefix m xs ys in
    let R : ℕ → Type 0 = λ m. child_from (at + 1) d k xs ≡ Some m in
    f (n - 1) (subst R is e) (subst Q more s) ∙ ap Some (sym is)

child_from-same : (at d i n : ℕ) (xs ys : List ℕ) → child_from at d i xs ≡ Some (at + n) → SamePrefix (suc n) xs ys → child_from at d i ys ≡ Some (at + n)
child_from-same at d i n [] ys h s = absurd s
child_from-same at d i n (x ∷ xs) [] h s = absurd s
child_from-same at d i n (x ∷ xs) (y ∷ ys) h s =
    let P : ℕ → Type 0 = λ z. child_from at d i (z ∷ ys) ≡ Some (at + n) in
    subst P s.0
    (child_from-step (nat_lt d x) (nat_eq x (d + 1)) (nat_eq i 0) at (at + n) (child_from (at + 1) d (i - 1) xs) (child_from (at + 1) d i xs)
    (child_from (at + 1) d (i - 1) ys) (child_from (at + 1) d i ys)
    (later-same at d (i - 1) n xs ys (λ m e t. child_from-same (at + 1) d (i - 1) m xs ys e t) s.1)
    (later-same at d i n xs ys (λ m e t. child_from-same (at + 1) d i m xs ys e t) s.1) h)

pub child-same : (ds es : List ℕ) (p i c : ℕ) → p < length ds → child ds p i ≡ Some c → SamePrefix (c + 1) ds es → child es p i ≡ Some c
child-same ds es p i c h is s =
    let w = child-at 0 ds p i c h is in
    let n = c - (p + 1) in
    let e : c ≡ p + 1 + n = omega arith in
    let P : ℕ → Type 0 = λ m. SamePrefix m ds es in
    let R : ℕ → Type 0 = λ m. child_from (p + 1) (get_or ds p 0) i (drop (p + 1) ds) ≡ Some m in
    let Q : ℕ → Type 0 = λ d. child_from (p + 1) d i (drop (p + 1) es) ≡ Some c in
    let same : get_or ds p 0 ≡ get_or es p 0 = prefix-get (c + 1) p ds es (omega arith) s in
    let k : c + 1 ≡ p + 1 + suc n = omega arith in
    subst Q same (child_from-same (p + 1) (get_or ds p 0) i n (drop (p + 1) ds) (drop (p + 1) es) (subst R e is) (prefix-drop (p + 1) (suc n) ds es (subst P k s)) ∙ ap Some (sym e))

after-step : (ds q : List ℕ) (a p i : ℕ) (o : Option ℕ) → a < length ds → child ds a i ≡ o
    → ((c : ℕ) → c < length ds → node_from ds (Some c) q ≡ Some p → (c ≤ p) × (p < length ds)) → node_from ds o q ≡ Some p → (a ≤ p) × (p < length ds)
after-step ds q a p i None h is f e = let no = node_from-none ds q in cc
after-step ds q a p i (Some c) h is f e =
    let w = child-at 0 ds a i c h is in
    let up : a < c = w.0 in
    let r = f c w.1 e in
    let le : c ≤ p = r.0 in
    (omega arith, r.1)

-- the node that a path names from a node on is not before it
node_from-after : (ds q : List ℕ) (a p : ℕ) → a < length ds → node_from ds (Some a) q ≡ Some p → (a ≤ p) × (p < length ds)
node_from-after ds [] a p h e = let same : a ≡ p = cc in (omega arith, omega arith)
node_from-after ds (i ∷ q) a p h e = after-step ds q a p i (child ds a i) h refl (λ c k is. node_from-after ds q c p k is) e

same-step : (ds es q : List ℕ) (a p i : ℕ) (o : Option ℕ) → a < length ds → child ds a i ≡ o → SamePrefix (p + 1) ds es
    → ((c : ℕ) → c < length ds → node_from ds (Some c) q ≡ Some p → node_from es (Some c) q ≡ Some p) → node_from ds o q ≡ Some p → node_from es (child es a i) q ≡ Some p
same-step ds es q a p i None h is s f e = let no = node_from-none ds q in cc
same-step ds es q a p i (Some c) h is s f e =
    let w = child-at 0 ds a i c h is in
    let within : c < length ds = w.1 in
    let le : c ≤ p = (node_from-after ds q c p within e).0 in
    rw (child-same ds es a i c h is (prefix-less (c + 1) (p + 1) ds es (omega arith) s)) (f c within e)

node_from-same : (ds es q : List ℕ) (a p : ℕ) → a < length ds → node_from ds (Some a) q ≡ Some p → SamePrefix (p + 1) ds es → node_from es (Some a) q ≡ Some p
node_from-same ds es [] a p h e s = e
node_from-same ds es (i ∷ q) a p h e s = same-step ds es q a p i (child ds a i) h refl s (λ c k is. node_from-same ds es q c p k is s) e

pub node-same : (ds es q : List ℕ) (p : ℕ) → 0 < length ds → node ds q ≡ Some p → SamePrefix (p + 1) ds es → node es q ≡ Some p
node-same ds es q p h e s = node_from-same ds es q 0 p h e s

pub node-child : (ds : List ℕ) (o : Option ℕ) (q : List ℕ) (i : ℕ) → node_from ds o (q ++ i ∷ []) ≡ child_at ds i (node_from ds o q)
node-child ds o [] i = refl
node-child ds o (j ∷ q) i = node-child ds (child_at ds j o) q i

-- the node that a path names is in the tree
pub node-in : (ds q : List ℕ) (p : ℕ) → 0 < length ds → node ds q ≡ Some p → p < length ds
node-in ds q p h e = (node_from-after ds q 0 p h e).1
