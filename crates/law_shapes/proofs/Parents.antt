-- Nodes keep their parents.
use Rattle.std.proofs.Common.{◌≡◌, ℕ, ◌+◌, ◌-◌, ◌<◌, ◌≤◌, min, suc, Bool, true, false, List, [], ◌∷◌, ◌++◌, length, take, drop, get_or, Option, refl, sym, ap, ◌∙◌, subst, arith}
use Rattle.std.specs.Prelude.{if◌then◌else◌, nat_lt, slice_range}
use Rattle.std.specs.List.Sorted.{IsPermutation}
use Rattle.std.proofs.lemmas.Bool.Decides.{nat_tests}
use Rattle.std.proofs.lemmas.List.{append_assoc, drop_more, drop-drop, length-take, length-drop, take-append-drop}
use Rattle.std.proofs.lemmas.List.Edits.{split_between}
use Rattle.std.proofs.lemmas.List.Sorted.{IsPermutation-trans, IsPermutation-append_right, IsPermutation-append_comm, IsPermutation-middle}
use Rattle.hold_shapes.specs.declared.origins.Origin.{Origin}
use Rattle.hold_shapes.specs.declared.origins.Origin.TheVariants.{Fresh}
use Rattle.hold_shapes.specs.Trees.{descendants, end_of}
use Rattle.hold_shapes.specs.Plans.{remove_part, insert_part, moved_depths}
use Rattle.hold_shapes.proofs.ValidDepths.{Low, HeadAtMost}
use Rattle.law_shapes.specs.Parents.{Called, less_deep, nearest, parents_below, parents}

abbrev pub Pairs : Type 0
Pairs = List (Origin × Option Origin)

-- the nodes on the way to what follows
abbrev pub way_after : List Called → List ℕ → List Origin → List Called
way_after above [] os = above
way_after above (d ∷ ds) [] = above
way_after above (d ∷ ds) (o ∷ os) = way_after ((d, o) ∷ less_deep d above) ds os

below-append : (above : List Called) (ds es : List ℕ) (os ps : List Origin) → length ds ≡ length os
    → parents_below above (ds ++ es) (os ++ ps) ≡ parents_below above ds os ++ parents_below (way_after above ds os) es ps
below-append above [] es [] ps h = refl
below-append above [] es (o ∷ os) ps h = absurd (omega arith)
below-append above (d ∷ ds) es [] ps h = absurd (omega arith)
below-append above (d ∷ ds) es (o ∷ os) ps h =
    ap (λ (l : Pairs). (o, nearest (less_deep d above)) ∷ l) (below-append ((d, o) ∷ less_deep d above) ds es os ps (omega arith))

twice-step : (t u : Bool) (c d e : ℕ) (n : Called) (above : List Called) → nat_lt e d ≡ t → nat_lt e c ≡ u → n.0 ≡ e → c ≤ d → less_deep c (less_deep d above) ≡ less_deep c above
    → less_deep c (if t then n ∷ above else less_deep d above) ≡ (if u then n ∷ above else less_deep c above)
twice-step true true c d e n above h k s le ih = rw (s, k) refl
twice-step true false c d e n above h k s le ih = rw (s, k) refl
twice-step false true c d e n above h k s le ih = absurd (let a : e < c = grind (arith, nat_tests) in let b : d ≤ e = grind (arith, nat_tests) in omega arith)
twice-step false false c d e n above h k s le ih = ih

less-twice : (c d : ℕ) (above : List Called) → c ≤ d → less_deep c (less_deep d above) ≡ less_deep c above
less-twice c d [] le = refl
less-twice c d (n ∷ above) le = twice-step (nat_lt n.0 d) (nat_lt n.0 c) c d n.0 n above refl refl refl le (less-twice c d above le)

not-less : (c d : ℕ) → c ≤ d → nat_lt d c ≡ false
not-less c d h = grind (arith, nat_tests)

-- a part that is nowhere less deep than c does not count for a node of depth c behind it
less-after : (c : ℕ) (above : List Called) (ds : List ℕ) (os : List Origin) → Low c ds → less_deep c (way_after above ds os) ≡ less_deep c above
less-after c above [] os l = refl
less-after c above (d ∷ ds) [] l = refl
less-after c above (d ∷ ds) (o ∷ os) l =
    let ih = less-after c ((d, o) ∷ less_deep d above) ds os l.1 in
    let here : less_deep c ((d, o) ∷ less_deep d above) ≡ less_deep c (less_deep d above) = rw (not-less c d l.0) refl in
    ih ∙ (here ∙ less-twice c d above l.0)

pub lower : (b c : ℕ) (ds : List ℕ) → b ≤ c → Low c ds → Low b ds
lower b c [] h l = tt
lower b c (d ∷ ds) h l = (let k = l.0 in omega arith, lower b c ds h l.1)

below-same : (d : ℕ) (ds : List ℕ) (ps : List Origin) (one other : List Called) → less_deep d one ≡ less_deep d other → parents_below one (d ∷ ds) ps ≡ parents_below other (d ∷ ds) ps
below-same d ds [] one other e = refl
below-same d ds (p ∷ ps) one other e = ap (λ (way : List Called). (p, nearest way) ∷ parents_below ((d, p) ∷ way) ds ps) e

skip-part : (c : ℕ) (above : List Called) (ds es : List ℕ) (os ps : List Origin) → Low c ds → HeadAtMost c es
    → parents_below (way_after above ds os) es ps ≡ parents_below above es ps
skip-part c above ds [] os ps l h = refl
skip-part c above ds (e ∷ es) os ps l h = below-same e es ps (way_after above ds os) above (less-after e above ds os (lower e c ds h l))

-- ---- inside a subtree only the subtree counts

root-step : (t : Bool) (c : ℕ) (k r : Called) (m above : List Called) → less_deep c (m ++ r ∷ above) ≡ less_deep c m ++ r ∷ above
    → (if t then k ∷ (m ++ r ∷ above) else less_deep c (m ++ r ∷ above)) ≡ (if t then k ∷ m else less_deep c m) ++ r ∷ above
root-step true c k r m above ih = refl
root-step false c k r m above ih = ih

less-root : (c d : ℕ) (o : Origin) (m above : List Called) → d < c → less_deep c (m ++ (d, o) ∷ above) ≡ less_deep c m ++ (d, o) ∷ above
less-root c d o [] above h = let t : nat_lt d c ≡ true = grind (arith, nat_tests) in rw t refl
less-root c d o (k ∷ m) above h = root-step (nat_lt k.0 c) c k (d, o) m above (less-root c d o m above h)

nearest-root : (m above : List Called) (r : Called) → nearest (m ++ r ∷ above) ≡ nearest (m ++ r ∷ [])
nearest-root [] above r = refl
nearest-root (k ∷ m) above r = refl

inside : (d : ℕ) (o : Origin) (m above : List Called) (es : List ℕ) (ps : List Origin) → Low (d + 1) es
    → parents_below (m ++ (d, o) ∷ above) es ps ≡ parents_below (m ++ (d, o) ∷ []) es ps
inside d o m above [] ps l = refl
inside d o m above (e ∷ es) [] l = refl
inside d o m above (e ∷ es) (p ∷ ps) l =
    let one = less-root e d o m above (let k = l.0 in omega arith) in
    let other = less-root e d o m [] (let k = l.0 in omega arith) in
    let near : nearest (less_deep e (m ++ (d, o) ∷ above)) ≡ nearest (less_deep e (m ++ (d, o) ∷ [])) =
    ap nearest one ∙ (nearest-root (less_deep e m) above (d, o) ∙ sym (ap nearest other)) in
    let rest : parents_below ((e, p) ∷ less_deep e (m ++ (d, o) ∷ above)) es ps ≡ parents_below ((e, p) ∷ less_deep e (m ++ (d, o) ∷ [])) es ps =
    ap (λ (way : List Called). parents_below ((e, p) ∷ way) es ps) one
    ∙ (inside d o ((e, p) ∷ less_deep e m) above es ps l.1 ∙ sym (ap (λ (way : List Called). parents_below ((e, p) ∷ way) es ps) other)) in
    rw (near, rest) refl

to-front : (front kids back : Pairs) (r : Origin × Option Origin) → IsPermutation (front ++ ((r ∷ kids) ++ back)) (r ∷ ((front ++ back) ++ kids))
to-front front kids back r =
    let turned = IsPermutation-append_right front ((r ∷ kids) ++ back) (back ++ (r ∷ kids)) (IsPermutation-append_comm (r ∷ kids) back) in
    let P : Pairs → Type 0 = λ k. IsPermutation (front ++ ((r ∷ kids) ++ back)) k in
    IsPermutation-trans (front ++ ((r ∷ kids) ++ back)) ((front ++ back) ++ (r ∷ kids)) (r ∷ ((front ++ back) ++ kids))
    (subst P (sym (append_assoc front back (r ∷ kids))) turned) (IsPermutation-middle (front ++ back) r kids)

-- a subtree of root depth d, called o, stands between xs and ys, which go on at most as deep: its root has some parent, and all others have theirs
pub with-subtree : (xs ys bs : List ℕ) (us vs cs : List Origin) (d : ℕ) (o : Origin) → length xs ≡ length us → length bs ≡ length cs → Low (d + 1) bs → HeadAtMost d ys
    → (p : Option Origin) × IsPermutation (parents (xs ++ ((d ∷ bs) ++ ys)) (us ++ ((o ∷ cs) ++ vs)))
    ((o, p) ∷ (parents (xs ++ ys) (us ++ vs) ++ parents_below ((d, o) ∷ []) bs cs))
with-subtree xs ys bs us vs cs d o hx hb l h =
    let way = way_after [] xs us in
    let a = below-append [] xs ((d ∷ bs) ++ ys) us ((o ∷ cs) ++ vs) hx in
    let b = below-append way (d ∷ bs) ys (o ∷ cs) vs (omega arith) in
    let c = skip-part d way (d ∷ bs) ys (o ∷ cs) vs (omega arith, lower d (d + 1) bs (omega arith) l) h in
    let i = inside d o [] (less_deep d way) bs cs l in
    let r = below-append [] xs ys us vs hx in
    let front = parents_below [] xs us in
    let back = parents_below way ys vs in
    let kids = parents_below ((d, o) ∷ []) bs cs in
    let p = nearest (less_deep d way) in
    let whole : parents (xs ++ ((d ∷ bs) ++ ys)) (us ++ ((o ∷ cs) ++ vs)) ≡ front ++ (((o, p) ∷ kids) ++ back) =
    a ∙ ap (λ (k : Pairs). front ++ k) (b ∙ (ap (λ (k : Pairs). parents_below way (d ∷ bs) (o ∷ cs) ++ k) c ∙ ap (λ (k : Pairs). ((o, p) ∷ k) ++ back) i)) in
    let P : Pairs → Type 0 = λ k. IsPermutation k ((o, p) ∷ (parents (xs ++ ys) (us ++ vs) ++ kids)) in
    let Q : Pairs → Type 0 = λ k. IsPermutation (front ++ (((o, p) ∷ kids) ++ back)) ((o, p) ∷ (k ++ kids)) in
    (p, subst P (sym whole) (subst Q (sym r) (to-front front kids back (o, p))))

-- ---- a subtree taken out, and one put in

pub high-step : (t : Bool) (d e : ℕ) (es : List ℕ) → nat_lt d e ≡ t → Low (d + 1) (take (descendants d es) es) → Low (d + 1) (take (if t then suc (descendants d es) else 0) (e ∷ es))
high-step true d e es h l = (grind (arith, nat_tests), l)
high-step false d e es h l = tt

-- all nodes of a subtree but its root are deeper
pub deeper : (d : ℕ) (es : List ℕ) → Low (d + 1) (take (descendants d es) es)
deeper d [] = tt
deeper d (e ∷ es) = high-step (nat_lt d e) d e es refl (deeper d es)

pub next-step : (t : Bool) (d e : ℕ) (es : List ℕ) → nat_lt d e ≡ t → HeadAtMost d (drop (descendants d es) es) → HeadAtMost d (drop (if t then suc (descendants d es) else 0) (e ∷ es))
next-step true d e es h l = l
next-step false d e es h l = grind (arith, nat_tests)

-- the node behind a subtree is at most as deep as its root
pub next : (d : ℕ) (es : List ℕ) → HeadAtMost d (drop (descendants d es) es)
next d [] = tt
next d (e ∷ es) = next-step (nat_lt d e) d e es refl (next d es)

pub behind : (ds : List ℕ) (p : ℕ) → HeadAtMost (get_or ds p 0) (drop (end_of ds p) ds)
behind ds p =
    let n = descendants (get_or ds p 0) (drop (p + 1) ds) in
    let P : List ℕ → Type 0 = λ es. HeadAtMost (get_or ds p 0) es in
    subst P (drop-drop n (p + 1) ds) (next (get_or ds p 0) (drop (p + 1) ds))

pub part-of : (X : Type 0) (xs : List X) (c n : ℕ) (x : X) → c < length xs → slice_range xs c (c + 1 + n) ≡ get_or xs c x ∷ take n (drop (c + 1) xs)
part-of X xs c n x h =
    let e : c + 1 + n - c ≡ suc n = omega arith in
    rw e (rw (drop_more xs c x h) refl)

-- what is in the subtree at c besides its root
abbrev pub below_node : List ℕ → ℕ → List ℕ
below_node ds c = take (descendants (get_or ds c 0) (drop (c + 1) ds)) (drop (c + 1) ds)

abbrev pub called_below : List ℕ → List Origin → ℕ → List Origin
called_below ds os c = take (descendants (get_or ds c 0) (drop (c + 1) ds)) (drop (c + 1) os)

pub same-below : (ds : List ℕ) (os : List Origin) (c : ℕ) → length ds ≡ length os → length (below_node ds c) ≡ length (called_below ds os c)
same-below ds os c h =
    let n = descendants (get_or ds c 0) (drop (c + 1) ds) in
    let a = length-take n (drop (c + 1) ds) in
    let b = length-take n (drop (c + 1) os) in
    let f = length-drop (c + 1) ds in
    let g = length-drop (c + 1) os in
    let same : length (drop (c + 1) ds) ≡ length (drop (c + 1) os) = omega arith in
    a ∙ (ap (λ (k : ℕ). min n k) same ∙ sym b)

-- the parents of the nodes of the subtree at c but its root
abbrev pub kids_of : List ℕ → List Origin → ℕ → Pairs
kids_of ds os c = parents_below ((get_or ds c 0, get_or os c Fresh) ∷ []) (below_node ds c) (called_below ds os c)

same-front : (X Y : Type 0) (xs : List X) (ys : List Y) (n : ℕ) → length xs ≡ length ys → length (take n xs) ≡ length (take n ys)
same-front X Y xs ys n h = length-take n xs ∙ (ap (λ (k : ℕ). min n k) h ∙ sym (length-take n ys))

pub taken-out : (ds : List ℕ) (os : List Origin) (c : ℕ) → length ds ≡ length os → c < length ds
    → (p : Option Origin) × IsPermutation (parents ds os)
    ((get_or os c Fresh, p) ∷ (parents (remove_part c (end_of ds c) ds) (remove_part c (end_of ds c) os) ++ kids_of ds os c))
taken-out ds os c h lt =
    let n = descendants (get_or ds c 0) (drop (c + 1) ds) in
    let e = end_of ds c in
    let d = get_or ds c 0 in
    let o = get_or os c Fresh in
    let le : c ≤ e = omega arith in
    let split : ds ≡ take c ds ++ ((d ∷ below_node ds c) ++ drop e ds) =
    split_between ds c e le ∙ ap (λ (b : List ℕ). take c ds ++ (b ++ drop e ds)) (part-of ℕ ds c n 0 lt) in
    let called : os ≡ take c os ++ ((o ∷ called_below ds os c) ++ drop e os) =
    split_between os c e le ∙ ap (λ (b : List Origin). take c os ++ (b ++ drop e os)) (part-of Origin os c n Fresh (omega arith)) in
    let w = with-subtree (take c ds) (drop e ds) (below_node ds c) (take c os) (drop e os) (called_below ds os c) d o
    (same-front ℕ Origin ds os c h) (same-below ds os c h) (deeper d (drop (c + 1) ds)) (behind ds c) in
    let P : List ℕ → Type 0 = λ l. IsPermutation (parents l os) ((o, w.0) ∷ (parents (remove_part c e ds) (remove_part c e os) ++ kids_of ds os c)) in
    let Q : List Origin → Type 0 = λ l. IsPermutation (parents (take c ds ++ ((d ∷ below_node ds c) ++ drop e ds)) l) ((o, w.0) ∷ (parents (remove_part c e ds) (remove_part c e os) ++ kids_of ds os c)) in
    (w.0, subst P (sym split) (subst Q (sym called) w.1))

pub put-back : (ds bs : List ℕ) (os cs : List Origin) (t d : ℕ) (o : Origin) → length ds ≡ length os → length bs ≡ length cs → Low (d + 1) bs → HeadAtMost d (drop t ds)
    → (p : Option Origin) × IsPermutation (parents (insert_part t (d ∷ bs) ds) (insert_part t (o ∷ cs) os)) ((o, p) ∷ (parents ds os ++ parents_below ((d, o) ∷ []) bs cs))
put-back ds bs os cs t d o h k l g =
    let w = with-subtree (take t ds) (drop t ds) bs (take t os) (drop t os) cs d o (same-front ℕ Origin ds os t h) k l g in
    let P : List ℕ → Type 0 = λ xs. IsPermutation (parents (insert_part t (d ∷ bs) ds) (insert_part t (o ∷ cs) os)) ((o, w.0) ∷ (parents xs (take t os ++ drop t os) ++ parents_below ((d, o) ∷ []) bs cs)) in
    let Q : List Origin → Type 0 = λ us. IsPermutation (parents (insert_part t (d ∷ bs) ds) (insert_part t (o ∷ cs) os)) ((o, w.0) ∷ (parents ds us ++ parents_below ((d, o) ∷ []) bs cs)) in
    (w.0, subst Q (take-append-drop t os) (subst P (take-append-drop t ds) w.1))

-- ---- a subtree as it is below another node: all its depths are more or less by the same number

abbrev pub LowWay : ℕ → List Called → Type 0
LowWay a [] = Unit {0}
LowWay a (n ∷ way) = (a ≤ n.0) × LowWay a way

abbrev pub lifted : ℕ → ℕ → List Called → List Called
lifted a r [] = []
lifted a r (n ∷ way) = (n.0 - a + (r + 1), n.1) ∷ lifted a r way

same-test : (a r c d : ℕ) → a ≤ c → a ≤ d → nat_lt (d - a + (r + 1)) (c - a + (r + 1)) ≡ nat_lt d c
same-test a r c d h k = grind (arith, nat_tests)

lifted-step : (t : Bool) (a r c : ℕ) (n : Called) (way : List Called) → less_deep (c - a + (r + 1)) (lifted a r way) ≡ lifted a r (less_deep c way)
    → (if t then (n.0 - a + (r + 1), n.1) ∷ lifted a r way else less_deep (c - a + (r + 1)) (lifted a r way)) ≡ lifted a r (if t then n ∷ way else less_deep c way)
lifted-step true a r c n way ih = refl
lifted-step false a r c n way ih = ih

less-lifted : (a r c : ℕ) (way : List Called) → a ≤ c → LowWay a way → less_deep (c - a + (r + 1)) (lifted a r way) ≡ lifted a r (less_deep c way)
less-lifted a r c [] h l = refl
less-lifted a r c (n ∷ way) h l =
    rw (same-test a r c n.0 h l.0) (lifted-step (nat_lt n.0 c) a r c n way (less-lifted a r c way h l.1))

low-way-step : (t : Bool) (a : ℕ) (n : Called) (way rest : List Called) → LowWay a (n ∷ way) → LowWay a rest → LowWay a (if t then n ∷ way else rest)
low-way-step true a n way rest l m = l
low-way-step false a n way rest l m = m

low-less : (a c : ℕ) (way : List Called) → LowWay a way → LowWay a (less_deep c way)
low-less a c [] l = tt
low-less a c (n ∷ way) l = low-way-step (nat_lt n.0 c) a n way (less_deep c way) l (low-less a c way l.1)

nearest-lifted : (a r : ℕ) (way : List Called) → nearest (lifted a r way) ≡ nearest way
nearest-lifted a r [] = refl
nearest-lifted a r (n ∷ way) = refl

pub below-lifted : (a r : ℕ) (way : List Called) (es : List ℕ) (ps : List Origin) → LowWay a way → Low a es → parents_below (lifted a r way) (moved_depths a r es) ps ≡ parents_below way es ps
below-lifted a r way [] ps w l = refl
below-lifted a r way (e ∷ es) [] w l = refl
below-lifted a r way (e ∷ es) (p ∷ ps) w l =
    let s = less-lifted a r e way l.0 w in
    let near : nearest (less_deep (e - a + (r + 1)) (lifted a r way)) ≡ nearest (less_deep e way) = ap nearest s ∙ nearest-lifted a r (less_deep e way) in
    let rest : parents_below ((e - a + (r + 1), p) ∷ less_deep (e - a + (r + 1)) (lifted a r way)) (moved_depths a r es) ps ≡ parents_below ((e, p) ∷ less_deep e way) es ps =
    ap (λ (k : List Called). parents_below ((e - a + (r + 1), p) ∷ k) (moved_depths a r es) ps) s ∙ below-lifted a r ((e, p) ∷ less_deep e way) es ps (l.0, low-less a e way w) l.1 in
    rw (near, rest) refl
