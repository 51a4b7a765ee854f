-- Lists whose size changes, and whose items are acted on one after another.
use Rattle.std.proofs.Common.{◌≡◌, ℕ, ◌+◌, ◌-◌, ◌*◌, ◌/◌, ◌%◌, ◌<◌, ◌≤◌, suc, zero, Bool, true, false, List, [], ◌∷◌, ◌++◌, length, take, replicate, Some, Ok, Err, refl, sym, ap, subst, ◌∙◌, arith}
use Rattle.std.specs.Prelude.{if◌then◌else◌, nat_lt, nat_eq, nat_le}
use Rattle.std.proofs.lemmas.Bool.Decides.{nat_tests}
use Rattle.std.proofs.lemmas.List.{append-nil, append_assoc, length-append, length-replicate, take_all, length-take-le}
use Rattle.std.proofs.lemmas.Nat.{div-add-mod', mod_below}
use Rattle.hold_shapes.specs.declared.edit.Place.TheVariants.{Index}
use Rattle.hold_shapes.specs.declared.edit.ShapeEdit.TheVariants.{Ins, Del}
use Rattle.hold_shapes.specs.Causes.{Range}
use Rattle.hold_shapes.specs.Shapes.{place_of}
use Rattle.hold_shapes.specs.Plans.{list_of, is_count, old_places, plan}
use Rattle.hold_shapes.specs.declared.lists.TheConstants.{MOST_ITEMS}
use Rattle.texts.proofs.Conjunction.{both}
use Rattle.doc_values.specs.Documents.{DocTree, hold, docs_of}
use Rattle.doc_values.specs.Types.{TyTree, ty_list}
use Rattle.doc_values.specs.Initial.{initial}
use Rattle.edit_module.specs.Words.{shape, WordTree}
use Rattle.edit_module.specs.Action.{act}
use Rattle.edit_inverse.specs.Construct.{reshape, full_insertions, last_insertion, insertions, modify_each}
use Rattle.edit_inverse.proofs.ContainerKinds as kinds
use Rattle.edit_inverse.proofs.Moves.{Makes}
use Rattle.edit_inverse.proofs.Fills.{ins-makes}
use Rattle.edit_inverse.proofs.Items.{del-is}
use Rattle.edit_inverse.proofs.Acts.{acts-more, acts-shape, acts-there, acts-same}
use Rattle.edit_between.specs.Between.{full_deletions, last_deletion, deletions, resized}

-- each word takes a content to another one
abbrev pub Leads : TyTree → List WordTree → List DocTree → List DocTree → Type 0
Leads t [] [] [] = Unit {0}
Leads t (w ∷ ws) (x ∷ xs) (y ∷ ys) = (act t w x ≡ Ok y) × Leads t ws xs ys
Leads t _ _ _ = ⊥

index-there : (k n : ℕ) → k < n → place_of (list_of n) (Index k) ≡ Some k
index-there k n h = let z : nat_lt k n ≡ true = grind (arith, nat_tests) in rw z refl

-- the items from place k on
pub items-act : (t : TyTree) (ws : List WordTree) (front xs ys : List DocTree) (n k : ℕ) → Leads t ws xs ys → k ≡ length front → k + length ys ≤ n
    → act (ty_list t) (modify_each k ws) (hold (list_of n) (docs_of (front ++ xs))) ≡ Ok (hold (list_of n) (docs_of (front ++ ys)))
items-act t [] front [] [] n k b e h = refl
items-act t [] front [] (y ∷ ys) n k b e h = absurd b
items-act t [] front (x ∷ xs) ys n k b e h = absurd b
items-act t (w ∷ ws) front [] ys n k b e h = absurd b
items-act t (w ∷ ws) front (x ∷ xs) [] n k b e h = absurd b
items-act t (w ∷ ws) front (x ∷ xs) (y ∷ ys) n k b e h =
    let l = length-append front (y ∷ []) in
    let ih = items-act t ws (front ++ y ∷ []) xs ys n (k + 1) b.1 (omega arith) (omega arith) in
    let goes = acts-same (ty_list t) (modify_each (k + 1) ws) (list_of n) (list_of n) (list_of n) (list_of n) ((front ++ y ∷ []) ++ xs) (front ++ y ∷ xs) ((front ++ y ∷ []) ++ ys) (front ++ y ∷ ys)
    refl (append_assoc front (y ∷ []) xs) refl (append_assoc front (y ∷ []) ys) ih in
    acts-there kinds.List t (Index k) w (modify_each (k + 1) ws) (list_of n) front xs x y k (hold (list_of n) (docs_of (front ++ y ∷ ys))) refl (index-there k n (omega arith)) e b.0 goes

-- ---- items that go

count-is : (c : ℕ) → 1 ≤ c → c ≤ MOST_ITEMS → is_count c ≡ true
count-is c h k = both (nat_le 1 c) (nat_le c MOST_ITEMS) (grind (arith, nat_tests)) (grind (arith, nat_tests))

del-plan : (n c : ℕ) → is_count c ≡ true → c ≤ n → plan (list_of n) (Del c) ≡ Ok (list_of (n - c), old_places (n - c))
del-plan n c h k = ap (λ (b : Bool). if b then Ok (list_of (n - c), old_places (n - c)) else Err Range) (both (is_count c) (nat_le c n) h (grind (arith, nat_tests)))

del-makes : {X : Type 0} (n c : ℕ) (fresh : X) (xs : List X) → is_count c ≡ true → c ≤ n → n ≡ length xs → Makes (list_of n) (Del c) fresh xs (list_of (n - c)) (take (n - c) xs)
del-makes n c fresh xs h k e =
    let p = del-plan n c h k in
    (old_places (n - c), p, sym (del-is n c (list_of (n - c)) (old_places (n - c)) fresh xs e p).3)

take-take : {X : Type 0} (m n : ℕ) (xs : List X) → m ≤ n → take m (take n xs) ≡ take m xs
take-take zero n xs h = refl
take-take (suc m) zero xs h = absurd (omega arith)
take-take (suc m) (suc n) [] h = refl
take-take (suc m) (suc n) (x ∷ xs) h = ap (λ (l : List _). x ∷ l) (take-take m n xs (omega arith))

del-acts : (t : TyTree) (n c : ℕ) (xs : List DocTree) (rest : WordTree) (v : DocTree) → 1 ≤ c → c ≤ MOST_ITEMS → c ≤ n → n ≡ length xs
    → act (ty_list t) rest (hold (list_of (n - c)) (docs_of (take (n - c) xs))) ≡ Ok v → act (ty_list t) (reshape (Del c) rest) (hold (list_of n) (docs_of xs)) ≡ Ok v
del-acts t n c xs rest v h k l e goes =
    acts-more (ty_list t) (shape (Del c)) rest (hold (list_of n) (docs_of xs)) (hold (list_of (n - c)) (docs_of (take (n - c) xs))) v
    (acts-shape kinds.List t (Del c) (list_of n) (list_of (n - c)) xs (take (n - c) xs) (del-makes n c (initial t) xs (count-is c h k) l e)) goes

-- a list with its first m items
abbrev Cut : TyTree → WordTree → ℕ → List DocTree → DocTree → Type 0
Cut t rest m xs v = act (ty_list t) rest (hold (list_of m) (docs_of (take m xs))) ≡ Ok v

full-deletions-act : (t : TyTree) (k m n : ℕ) (xs : List DocTree) (rest : WordTree) (v : DocTree) → m + k * MOST_ITEMS ≡ n → n ≡ length xs → Cut t rest m xs v
    → act (ty_list t) (full_deletions k rest) (hold (list_of n) (docs_of xs)) ≡ Ok v
full-deletions-act t zero m n xs rest v e l goes =
    let z : m ≡ n = omega arith in
    let P : ℕ → Type 0 = λ i. Cut t rest i xs v in
    let Q : List DocTree → Type 0 = λ ys. act (ty_list t) rest (hold (list_of n) (docs_of ys)) ≡ Ok v in
    subst Q (take_all n xs (omega arith)) (subst P z goes)
full-deletions-act t (suc k) m n xs rest v e l goes =
    let i = n - MOST_ITEMS in
    let s = length-take-le i xs (omega arith) in
    let Q : List DocTree → Type 0 = λ ys. act (ty_list t) rest (hold (list_of m) (docs_of ys)) ≡ Ok v in
    del-acts t n MOST_ITEMS xs (full_deletions k rest) v (omega arith) (omega arith) (omega arith) l
    (full-deletions-act t k m i (take i xs) rest v (omega arith) (sym s) (subst Q (sym (take-take m i xs (omega arith))) goes))

last-deletion-acts : (b : Bool) (t : TyTree) (c m n : ℕ) (xs : List DocTree) (rest : WordTree) (v : DocTree) → nat_eq c 0 ≡ b → c ≤ MOST_ITEMS → m + c ≡ n → n ≡ length xs → Cut t rest m xs v
    → act (ty_list t) (if b then rest else reshape (Del c) rest) (hold (list_of n) (docs_of xs)) ≡ Ok v
last-deletion-acts true t c m n xs rest v h most e l goes =
    let z : m ≡ n = let c0 : c ≡ 0 = grind (arith, nat_tests) in omega arith in
    let P : ℕ → Type 0 = λ i. Cut t rest i xs v in
    let Q : List DocTree → Type 0 = λ ys. act (ty_list t) rest (hold (list_of n) (docs_of ys)) ≡ Ok v in
    subst Q (take_all n xs (omega arith)) (subst P z goes)
last-deletion-acts false t c m n xs rest v h most e l goes =
    let z : m ≡ n - c = omega arith in
    let some : 1 ≤ c = grind (arith, nat_tests) in
    let P : ℕ → Type 0 = λ i. Cut t rest i xs v in
    del-acts t n c xs rest v some most (omega arith) l (subst P z goes)

pub deletions-act : (t : TyTree) (c m n : ℕ) (xs : List DocTree) (rest : WordTree) (v : DocTree) → m + c ≡ n → n ≡ length xs → Cut t rest m xs v
    → act (ty_list t) (deletions c rest) (hold (list_of n) (docs_of xs)) ≡ Ok v
deletions-act t c m n xs rest v e l goes =
    let split = div-add-mod' c MOST_ITEMS in
    let below = mod_below c MOST_ITEMS (omega arith) in
    let some = c % MOST_ITEMS in
    let i = m + some in
    let s = length-take-le i xs (omega arith) in
    let Q : List DocTree → Type 0 = λ ys. act (ty_list t) rest (hold (list_of m) (docs_of ys)) ≡ Ok v in
    full-deletions-act t (c / MOST_ITEMS) i n xs (last_deletion some rest) v (omega arith) l
    (last-deletion-acts (nat_eq some 0) t some m i (take i xs) rest v refl (omega arith) refl (sym s) (subst Q (sym (take-take m i xs (omega arith))) goes))

-- ---- items that come

ins-acts : (t : TyTree) (n c : ℕ) (xs : List DocTree) (rest : WordTree) (v : DocTree) → 1 ≤ c → c ≤ MOST_ITEMS → n ≡ length xs
    → act (ty_list t) rest (hold (list_of (n + c)) (docs_of (xs ++ replicate c (initial t)))) ≡ Ok v → act (ty_list t) (reshape (Ins c) rest) (hold (list_of n) (docs_of xs)) ≡ Ok v
ins-acts t n c xs rest v h k e goes =
    let d = initial t in
    acts-more (ty_list t) (shape (Ins c)) rest (hold (list_of n) (docs_of xs)) (hold (list_of (n + c)) (docs_of (xs ++ replicate c d))) v
    (acts-shape kinds.List t (Ins c) (list_of n) (list_of (n + c)) xs (xs ++ replicate c d) (ins-makes n c d xs (count-is c h k) e)) goes

replicate-more : {X : Type 0} (m c : ℕ) (x : X) → replicate m x ++ replicate c x ≡ replicate (m + c) x
replicate-more zero c x = let e : 0 + c ≡ c = omega arith in rw e refl
replicate-more (suc m) c x = let e : suc m + c ≡ suc (m + c) = omega arith in rw e (ap (λ (l : List _). x ∷ l) (replicate-more m c x))

-- a list with c initial items behind its n ones
abbrev Grown : TyTree → WordTree → ℕ → ℕ → List DocTree → DocTree → Type 0
Grown t rest n c xs v = act (ty_list t) rest (hold (list_of (n + c)) (docs_of (xs ++ replicate c (initial t)))) ≡ Ok v

none-grown : (t : TyTree) (rest : WordTree) (n c : ℕ) (xs : List DocTree) (v : DocTree) → c ≡ 0 → Grown t rest n c xs v → act (ty_list t) rest (hold (list_of n) (docs_of xs)) ≡ Ok v
none-grown t rest n c xs v z goes =
    let P : ℕ → Type 0 = λ i. Grown t rest n i xs v in
    let got : Grown t rest n 0 xs v = subst P z goes in
    let one : n + 0 ≡ n = omega arith in
    acts-same-start t rest (n + 0) n (xs ++ []) xs v one (append-nil xs) got
  where
    acts-same-start : (t : TyTree) (rest : WordTree) (m n : ℕ) (xs ys : List DocTree) (v : DocTree) → m ≡ n → xs ≡ ys
        → act (ty_list t) rest (hold (list_of m) (docs_of xs)) ≡ Ok v → act (ty_list t) rest (hold (list_of n) (docs_of ys)) ≡ Ok v
    acts-same-start t rest m n xs ys v e f k =
        let P : ℕ → Type 0 = λ i. act (ty_list t) rest (hold (list_of i) (docs_of ys)) ≡ Ok v in
        let Q : List DocTree → Type 0 = λ l. act (ty_list t) rest (hold (list_of m) (docs_of l)) ≡ Ok v in
        subst P e (subst Q f k)

more-grown : (t : TyTree) (rest : WordTree) (n c e : ℕ) (xs : List DocTree) (v : DocTree) → Grown t rest n (c + e) xs v → Grown t rest (n + c) e (xs ++ replicate c (initial t)) v
more-grown t rest n c e xs v goes =
    let d = initial t in
    let one : n + (c + e) ≡ n + c + e = omega arith in
    let two : xs ++ replicate (c + e) d ≡ (xs ++ replicate c d) ++ replicate e d = ap (λ (l : List DocTree). xs ++ l) (sym (replicate-more c e d)) ∙ sym (append_assoc xs (replicate c d) (replicate e d)) in
    let P : ℕ → Type 0 = λ i. act (ty_list t) rest (hold (list_of i) (docs_of ((xs ++ replicate c d) ++ replicate e d))) ≡ Ok v in
    let Q : List DocTree → Type 0 = λ l. act (ty_list t) rest (hold (list_of (n + (c + e))) (docs_of l)) ≡ Ok v in
    subst P one (subst Q two goes)

full-insertions-act : (t : TyTree) (k n : ℕ) (xs : List DocTree) (rest : WordTree) (v : DocTree) → n ≡ length xs → Grown t rest n (k * MOST_ITEMS) xs v
    → act (ty_list t) (full_insertions k rest) (hold (list_of n) (docs_of xs)) ≡ Ok v
full-insertions-act t zero n xs rest v l goes = none-grown t rest n (0 * MOST_ITEMS) xs v (omega arith) goes
full-insertions-act t (suc k) n xs rest v l goes =
    let d = initial t in
    let sum : suc k * MOST_ITEMS ≡ MOST_ITEMS + k * MOST_ITEMS = omega arith in
    let P : ℕ → Type 0 = λ c. Grown t rest n c xs v in
    let l1 = length-append xs (replicate MOST_ITEMS d) in
    let l2 = length-replicate MOST_ITEMS d in
    ins-acts t n MOST_ITEMS xs (full_insertions k rest) v (omega arith) (omega arith) l
    (full-insertions-act t k (n + MOST_ITEMS) (xs ++ replicate MOST_ITEMS d) rest v (omega arith) (more-grown t rest n MOST_ITEMS (k * MOST_ITEMS) xs v (subst P sum goes)))

last-insertion-acts : (b : Bool) (t : TyTree) (c n : ℕ) (xs : List DocTree) (rest : WordTree) (v : DocTree) → nat_eq c 0 ≡ b → c ≤ MOST_ITEMS → n ≡ length xs → Grown t rest n c xs v
    → act (ty_list t) (if b then rest else reshape (Ins c) rest) (hold (list_of n) (docs_of xs)) ≡ Ok v
last-insertion-acts true t c n xs rest v h most l goes = none-grown t rest n c xs v (grind (arith, nat_tests)) goes
last-insertion-acts false t c n xs rest v h most l goes = let some : 1 ≤ c = grind (arith, nat_tests) in ins-acts t n c xs rest v some most l goes

pub more-act : (t : TyTree) (c n : ℕ) (xs : List DocTree) (rest : WordTree) (v : DocTree) → n ≡ length xs → Grown t rest n c xs v → act (ty_list t) (insertions c rest) (hold (list_of n) (docs_of xs)) ≡ Ok v
more-act t c n xs rest v l goes =
    let d = initial t in
    let below = mod_below c MOST_ITEMS (omega arith) in
    let full = c / MOST_ITEMS * MOST_ITEMS in
    let some = c % MOST_ITEMS in
    let split : c ≡ full + some = sym (div-add-mod' c MOST_ITEMS) in
    let P : ℕ → Type 0 = λ i. Grown t rest n i xs v in
    let l1 = length-append xs (replicate full d) in
    let l2 = length-replicate full d in
    full-insertions-act t (c / MOST_ITEMS) n xs (last_insertion some rest) v l
    (last-insertion-acts (nat_eq some 0) t some (n + full) (xs ++ replicate full d) rest v refl (omega arith) (omega arith) (more-grown t rest n full some xs v (subst P split goes)))

-- ---- both

-- what m items begin as: the first ones of xs, and initial ones behind them
abbrev pub starts : TyTree → List DocTree → List DocTree → List DocTree
starts t xs [] = []
starts t [] (y ∷ ys) = initial t ∷ starts t [] ys
starts t (x ∷ xs) (y ∷ ys) = x ∷ starts t xs ys

none-starts : (t : TyTree) (ys : List DocTree) → replicate (length ys) (initial t) ≡ starts t [] ys
none-starts t [] = refl
none-starts t (y ∷ ys) = ap (λ (l : List DocTree). initial t ∷ l) (none-starts t ys)

starts-is : (t : TyTree) (xs ys : List DocTree) → take (length xs - (length xs - length ys)) xs ++ replicate (length ys - length xs) (initial t) ≡ starts t xs ys
starts-is t [] [] = refl
starts-is t [] (y ∷ ys) =
    let a : 0 - (0 - suc (length ys)) ≡ 0 = omega arith in
    let b : suc (length ys) - 0 ≡ suc (length ys) = omega arith in
    rw (a, b) (none-starts t (y ∷ ys))
starts-is t (x ∷ xs) [] =
    let a : suc (length xs) - (suc (length xs) - 0) ≡ 0 = omega arith in
    let b : 0 - suc (length xs) ≡ 0 = omega arith in
    rw (a, b) refl
starts-is t (x ∷ xs) (y ∷ ys) =
    let a : suc (length xs) - (suc (length xs) - suc (length ys)) ≡ suc (length xs - (length xs - length ys)) = omega arith in
    let b : suc (length ys) - suc (length xs) ≡ length ys - length xs = omega arith in
    rw (a, b) (ap (λ (l : List DocTree). x ∷ l) (starts-is t xs ys))

pub resized-acts : (t : TyTree) (xs ys : List DocTree) (rest : WordTree) (v : DocTree) → act (ty_list t) rest (hold (list_of (length ys)) (docs_of (starts t xs ys))) ≡ Ok v
    → act (ty_list t) (resized (length xs) (length ys) rest) (hold (list_of (length xs)) (docs_of xs)) ≡ Ok v
resized-acts t xs ys rest v goes =
    let n = length xs in
    let m = length ys in
    let i = n - (n - m) in
    let s = length-take-le i xs (omega arith) in
    let P : ℕ → Type 0 = λ j. act (ty_list t) rest (hold (list_of j) (docs_of (starts t xs ys))) ≡ Ok v in
    let Q : List DocTree → Type 0 = λ l. act (ty_list t) rest (hold (list_of (i + (m - n))) (docs_of l)) ≡ Ok v in
    let whole : m ≡ i + (m - n) = omega arith in
    deletions-act t (n - m) i n xs (insertions (m - n) rest) v (omega arith) refl
    (more-act t (m - n) i (take i xs) rest v (sym s) (subst Q (sym (starts-is t xs ys)) (subst P whole goes)))

-- ---- as the code makes them

pub resized-down : (n m : ℕ) (rest : WordTree) → m < n → deletions (n - m) rest ≡ resized n m rest
resized-down n m rest h = let z : 0 ≡ m - n = omega arith in ap (λ (c : ℕ). deletions (n - m) (insertions c rest)) z

pub resized-up : (n m : ℕ) (rest : WordTree) → n ≤ m → insertions (m - n) rest ≡ resized n m rest
resized-up n m rest h = let z : 0 ≡ n - m = omega arith in ap (λ (c : ℕ). deletions c (insertions (m - n) rest)) z

pub ruleset resized_rules = (resized-down, resized-up)

pub full-more : (full i : ℕ) (rest : WordTree) → i < full → full_deletions (full - i) rest ≡ reshape (Del MOST_ITEMS) (full_deletions (full - (i + 1)) rest)
full-more full i rest h =
    let e : full - i ≡ suc (full - (i + 1)) = omega arith in
    ap (λ (n : ℕ). full_deletions n rest) e
