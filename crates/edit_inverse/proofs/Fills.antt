-- Words that fill containers with contents.
use Rattle.std.proofs.Common.{◌≡◌, ℕ, ◌+◌, ◌-◌, ◌*◌, ◌/◌, ◌%◌, ◌<◌, ◌≤◌, suc, zero, Bool, true, false, List, [], ◌∷◌, ◌++◌, length, map, get_or, take, drop, replicate, Option, None, Some, Ok, Err, refl, sym, ap, subst, ◌∙◌, arith}
use Rattle.std.specs.Prelude.{if◌then◌else◌, nat_lt, nat_eq, bytes_eq, nat_le}
use Rattle.std.specs.List.{insert}
use Rattle.std.proofs.lemmas.Bool.Decides.{nat_tests}
use Rattle.std.proofs.lemmas.List.{append-nil, append_assoc, length-append, map-append, length-replicate}
use Rattle.std.proofs.lemmas.List.Edits.{insert_end}
use Rattle.std.proofs.lemmas.Nat.{div-add-mod', mod_below}
use Rattle.std.proofs.Math.Seq.{get_or-append_seam}
use Rattle.hold_shapes.specs.declared.shape.Shape.TheVariants.{Keyed as KeyedOf, Tree as TreeOf}
use Rattle.hold_shapes.specs.declared.origins.Origin.TheVariants.{Fresh}
use Rattle.hold_shapes.specs.declared.edit.Place.TheVariants.{Index, Key, Node}
use Rattle.hold_shapes.specs.declared.edit.ShapeEdit.TheVariants.{Ins, PutKey, Graft}
use Rattle.hold_shapes.specs.Causes.{Range}
use Rattle.hold_shapes.specs.Gather.{content_at}
use Rattle.hold_shapes.specs.Shapes.{place_of}
use Rattle.hold_shapes.specs.Plans.{list_of, is_count, old_places, put_key}
use Rattle.hold_shapes.proofs.ValidDepths.{GoesOn, Low, HeadAtMost}
use Rattle.hold_shapes.specs.declared.lists.TheConstants.{MOST_ITEMS}
use Rattle.texts.specs.Keys.{is_rising, all_after, is_before, key_rank, key_place}
use Rattle.texts.proofs.Conjunction.{both}
use Rattle.texts.proofs.KeyOrder.{bytes_eq-refl, rising-first, rising-rest, after-all, key_place-past, key_place-found}
use Rattle.law_shapes.proofs.Content.{content-old_places}
use Rattle.doc_values.specs.Documents.{DocTree, unit, hold, docs_of}
use Rattle.doc_values.specs.Types.{TyTree, ty_list, ty_keyed, ty_ordered}
use Rattle.doc_values.specs.Initial.{initial}
use Rattle.edit_inverse.proofs.ContainerKinds as kinds
use Rattle.edit_module.specs.Words.{modify, shape, WordTree, no_primitives}
use Rattle.edit_module.specs.Action.{act}
use Rattle.edit_inverse.specs.Paths.{next_path, paths_after, parent_path}
use Rattle.edit_inverse.specs.Construct.{reshape, unless_empty, full_insertions, last_insertion, insertions, modify_each, put_each, graft_each}
use Rattle.law_shapes.proofs.Content.{content-insert}
use Rattle.edit_inverse.proofs.Ways.{Way, way-next, length-next_path}
use Rattle.edit_inverse.proofs.Moves.{Makes}
use Rattle.edit_inverse.proofs.Grafts.{graft-next, next-named}
use Rattle.edit_inverse.proofs.Acts.{acts-more, acts-shape, acts-there, acts-same}

-- each word makes its content from the initial value
abbrev pub Built : TyTree → List WordTree → List DocTree → Type 0
Built t [] [] = Unit {0}
Built t [] (y ∷ ys) = ⊥
Built t (w ∷ ws) [] = ⊥
Built t (w ∷ ws) (y ∷ ys) = (act t w (initial t) ≡ Ok y) × Built t ws ys

pub built-drop : (t : TyTree) (n : ℕ) (ws : List WordTree) (ys : List DocTree) → Built t ws ys → Built t (drop n ws) (drop n ys)
built-drop t zero ws ys b = b
built-drop t (suc n) [] [] b = tt
built-drop t (suc n) [] (y ∷ ys) b = absurd b
built-drop t (suc n) (w ∷ ws) [] b = absurd b
built-drop t (suc n) (w ∷ ws) (y ∷ ys) b = built-drop t n ws ys b.1

pub built-take : (t : TyTree) (n : ℕ) (ws : List WordTree) (ys : List DocTree) → Built t ws ys → Built t (take n ws) (take n ys)
built-take t zero ws ys b = tt
built-take t (suc n) [] [] b = tt
built-take t (suc n) [] (y ∷ ys) b = absurd b
built-take t (suc n) (w ∷ ws) [] b = absurd b
built-take t (suc n) (w ∷ ws) (y ∷ ys) b = (b.0, built-take t n ws ys b.1)

pub built-at : (t : TyTree) (n : ℕ) (ws : List WordTree) (ys : List DocTree) → Built t ws ys → n < length ys → act t (get_or ws n no_primitives) (initial t) ≡ Ok (get_or ys n unit)
built-at t n [] [] b h = absurd (omega arith)
built-at t n [] (y ∷ ys) b h = absurd b
built-at t n (w ∷ ws) [] b h = absurd b
built-at t zero (w ∷ ws) (y ∷ ys) b h = b.0
built-at t (suc n) (w ∷ ws) (y ∷ ys) b h = built-at t n ws ys b.1 (omega arith)

-- ---- lists

index-there : (k n : ℕ) → k < n → place_of (list_of n) (Index k) ≡ Some k
index-there k n h = let z : nat_lt k n ≡ true = grind (arith, nat_tests) in rw z refl

pub fill-acts : (t : TyTree) (ws : List WordTree) (front ys : List DocTree) (n k : ℕ) → Built t ws ys → k ≡ length front → k + length ys ≤ n
    → act (ty_list t) (modify_each k ws) (hold (list_of n) (docs_of (front ++ replicate (length ys) (initial t)))) ≡ Ok (hold (list_of n) (docs_of (front ++ ys)))
fill-acts t [] front [] n k b e h = refl
fill-acts t [] front (y ∷ ys) n k b e h = absurd b
fill-acts t (w ∷ ws) front [] n k b e h = absurd b
fill-acts t (w ∷ ws) front (y ∷ ys) n k b e h =
    let l = length-append front (y ∷ []) in
    let ih = fill-acts t ws (front ++ y ∷ []) ys n (k + 1) b.1 (omega arith) (omega arith) in
    let goes = acts-same (ty_list t) (modify_each (k + 1) ws) (list_of n) (list_of n) (list_of n) (list_of n)
    ((front ++ y ∷ []) ++ replicate (length ys) (initial t)) (front ++ y ∷ replicate (length ys) (initial t)) ((front ++ y ∷ []) ++ ys) (front ++ y ∷ ys)
    refl (append_assoc front (y ∷ []) (replicate (length ys) (initial t))) refl (append_assoc front (y ∷ []) ys) ih in
    acts-there kinds.List t (Index k) w (modify_each (k + 1) ws) (list_of n) front (replicate (length ys) (initial t)) (initial t) y k (hold (list_of n) (docs_of (front ++ y ∷ ys)))
    refl (index-there k n (omega arith)) e b.0 goes

map-fresh : {X : Type 0} (xs : List X) (fresh : X) (c : ℕ) → map (content_at xs fresh) (replicate c Fresh) ≡ replicate c fresh
map-fresh xs fresh zero = refl
map-fresh xs fresh (suc c) = ap (λ (l : List _). fresh ∷ l) (map-fresh xs fresh c)

pub ins-makes : {X : Type 0} (n c : ℕ) (fresh : X) (xs : List X) → is_count c ≡ true → n ≡ length xs → Makes (list_of n) (Ins c) fresh xs (list_of (n + c)) (xs ++ replicate c fresh)
ins-makes n c fresh xs h e =
    let from = old_places n ++ replicate c Fresh in (
      from,
      ap (λ (b : Bool). if b then Ok (list_of (n + c), from) else Err Range) h,
      map-append (content_at xs fresh) (old_places n) (replicate c Fresh)
          ∙ (ap (λ (l : List _). l ++ map (content_at xs fresh) (replicate c Fresh)) (content-old_places _ fresh xs n e)
          ∙ ap (λ (l : List _). xs ++ l) (map-fresh xs fresh c)),
    )

replicate-more : {X : Type 0} (m c : ℕ) (x : X) → replicate m x ++ replicate c x ≡ replicate (m + c) x
replicate-more zero c x = let e : 0 + c ≡ c = omega arith in rw e refl
replicate-more (suc m) c x = let e : suc m + c ≡ suc (m + c) = omega arith in rw e (ap (λ (l : List _). x ∷ l) (replicate-more m c x))

count-is : (c : ℕ) → 1 ≤ c → c ≤ MOST_ITEMS → is_count c ≡ true
count-is c h k = both (nat_le 1 c) (nat_le c MOST_ITEMS) (grind (arith, nat_tests)) (grind (arith, nat_tests))

-- m initial items and c more
ins-acts : (t : TyTree) (m c : ℕ) (rest : WordTree) (v : DocTree) → 1 ≤ c → c ≤ MOST_ITEMS
    → act (ty_list t) rest (hold (list_of (m + c)) (docs_of (replicate (m + c) (initial t)))) ≡ Ok v
    → act (ty_list t) (reshape (Ins c) rest) (hold (list_of m) (docs_of (replicate m (initial t)))) ≡ Ok v
ins-acts t m c rest v h k goes =
    let d = initial t in
    let more = ins-makes m c d (replicate m d) (count-is c h k) (sym (length-replicate m d)) in
    let P : List DocTree → Type 0 = λ ys. Makes (list_of m) (Ins c) d (replicate m d) (list_of (m + c)) ys in
    acts-more (ty_list t) (shape (Ins c)) rest (hold (list_of m) (docs_of (replicate m d))) (hold (list_of (m + c)) (docs_of (replicate (m + c) d))) v
    (acts-shape kinds.List t (Ins c) (list_of m) (list_of (m + c)) (replicate m d) (replicate (m + c) d) (subst P (replicate-more m c d) more)) goes

full-acts : (t : TyTree) (k m n : ℕ) (rest : WordTree) (v : DocTree) → m + k * MOST_ITEMS ≡ n
    → act (ty_list t) rest (hold (list_of n) (docs_of (replicate n (initial t)))) ≡ Ok v
    → act (ty_list t) (full_insertions k rest) (hold (list_of m) (docs_of (replicate m (initial t)))) ≡ Ok v
full-acts t zero m n rest v e goes =
    let z : n ≡ m = omega arith in
    let P : ℕ → Type 0 = λ i. act (ty_list t) rest (hold (list_of i) (docs_of (replicate i (initial t)))) ≡ Ok v in subst P z goes
full-acts t (suc k) m n rest v e goes =
    ins-acts t m MOST_ITEMS (full_insertions k rest) v (omega arith) (omega arith) (full-acts t k (m + MOST_ITEMS) n rest v (omega arith) goes)

last-acts : (b : Bool) (t : TyTree) (c m n : ℕ) (rest : WordTree) (v : DocTree) → nat_eq c 0 ≡ b → c ≤ MOST_ITEMS → m + c ≡ n
    → act (ty_list t) rest (hold (list_of n) (docs_of (replicate n (initial t)))) ≡ Ok v
    → act (ty_list t) (if b then rest else reshape (Ins c) rest) (hold (list_of m) (docs_of (replicate m (initial t)))) ≡ Ok v
last-acts true t c m n rest v h most e goes =
    let z : n ≡ m = let c0 : c ≡ 0 = grind (arith, nat_tests) in omega arith in
    let P : ℕ → Type 0 = λ i. act (ty_list t) rest (hold (list_of i) (docs_of (replicate i (initial t)))) ≡ Ok v in subst P z goes
last-acts false t c m n rest v h most e goes =
    let z : n ≡ m + c = omega arith in
    let some : 1 ≤ c = grind (arith, nat_tests) in
    let P : ℕ → Type 0 = λ i. act (ty_list t) rest (hold (list_of i) (docs_of (replicate i (initial t)))) ≡ Ok v in
    ins-acts t m c rest v some most (subst P z goes)

-- n initial items
pub insertions-act : (t : TyTree) (n : ℕ) (rest : WordTree) (v : DocTree) → act (ty_list t) rest (hold (list_of n) (docs_of (replicate n (initial t)))) ≡ Ok v
    → act (ty_list t) (insertions n rest) (hold (list_of 0) (docs_of [])) ≡ Ok v
insertions-act t n rest v goes =
    let split = div-add-mod' n MOST_ITEMS in
    let below = mod_below n MOST_ITEMS (omega arith) in
    full-acts t (n / MOST_ITEMS) 0 (n / MOST_ITEMS * MOST_ITEMS) (last_insertion (n % MOST_ITEMS) rest) v (omega arith)
    (last-acts (nat_eq (n % MOST_ITEMS) 0) t (n % MOST_ITEMS) (n / MOST_ITEMS * MOST_ITEMS) n rest v refl (omega arith) split goes)

-- ---- keyed maps

after-front : (m : List ℕ) (ks ls : List (List ℕ)) → all_after m (ks ++ ls) ≡ true → all_after m ks ≡ true
after-front m [] ls h = refl
after-front m (k ∷ ks) ls h = h

pub rising-front : (ks ls : List (List ℕ)) → is_rising (ks ++ ls) ≡ true → is_rising ks ≡ true
rising-front [] ls h = refl
rising-front (k ∷ ks) ls h = both _ _ (after-front k ks ls (rising-first k (ks ++ ls) h)) (rising-front ks ls (rising-rest k (ks ++ ls) h))

-- a key behind others comes after all of them
rank-behind : (ks : List (List ℕ)) (k : List ℕ) (ls : List (List ℕ)) → is_rising (ks ++ k ∷ ls) ≡ true → key_rank k ks ≡ length ks
rank-behind [] k ls h = refl
rank-behind (m ∷ ks) k ls h =
    let rest = rising-rest m (ks ++ k ∷ ls) h in
    let l = length-append ks (k ∷ ls) in
    let before = after-all m (ks ++ k ∷ ls) (length ks) [] (rising-first m (ks ++ k ∷ ls) h) rest (omega arith) in
    let P : List ℕ → Type 0 = λ n. is_before m n ≡ true in
    let less : is_before m k ≡ true = subst P (get_or-append_seam ks k ls []) before in
    rw less (ap suc (rank-behind ks k ls rest))

place-behind : (ks : List (List ℕ)) (k : List ℕ) → is_rising (ks ++ k ∷ []) ≡ true → key_place k (ks ++ k ∷ []) ≡ Some (length ks)
place-behind ks k h =
    let l = length-append ks (k ∷ []) in
    let P : List ℕ → Type 0 = λ n. bytes_eq k n ≡ true in
    key_place-found k [] (ks ++ k ∷ []) (length ks) h (omega arith) (subst P (sym (get_or-append_seam ks k [] [])) (bytes_eq-refl k))

-- a new key among others
pub put-makes : {X : Type 0} (ks : List (List ℕ)) (k : List ℕ) (fresh : X) (xs : List X) → key_place k ks ≡ None → length ks ≡ length xs
    → Makes (KeyedOf ks) (PutKey k) fresh xs (KeyedOf (insert ks (key_rank k ks) k)) (insert xs (key_rank k ks) fresh)
put-makes ks k fresh xs h e =
    (insert (old_places (length ks)) (key_rank k ks) Fresh, ap (λ (o : Option ℕ). put_key ks k o) h, sym (content-insert _ fresh xs (length ks) (key_rank k ks) Fresh e))

pub put-acts : (t : TyTree) (ks : List (List ℕ)) (ws : List WordTree) (ls : List (List ℕ)) (front ys : List DocTree) → Built t ws ys → length ks ≡ length ys → length ls ≡ length front
    → is_rising (ls ++ ks) ≡ true
    → act (ty_keyed t) (put_each ks ws) (hold (KeyedOf ls) (docs_of front)) ≡ Ok (hold (KeyedOf (ls ++ ks)) (docs_of (front ++ ys)))
put-acts t [] ws ls front [] b e f r =
    acts-same (ty_keyed t) no_primitives (KeyedOf ls) (KeyedOf ls) (KeyedOf ls) (KeyedOf (ls ++ [])) front front front (front ++ []) refl refl
    (ap (λ (l : List (List ℕ)). KeyedOf l) (sym (append-nil ls))) (sym (append-nil front)) refl
put-acts t [] ws ls front (y ∷ ys) b e f r = absurd (omega arith)
put-acts t (k ∷ ks) ws ls front [] b e f r = absurd (omega arith)
put-acts t (k ∷ ks) [] ls front (y ∷ ys) b e f r = absurd b
put-acts t (k ∷ ks) (w ∷ ws) ls front (y ∷ ys) b e f r =
    let d = initial t in
    let one : (ls ++ k ∷ []) ++ ks ≡ ls ++ k ∷ ks = append_assoc ls (k ∷ []) ks in
    let P : List (List ℕ) → Type 0 = λ l. is_rising l ≡ true in
    let r' : is_rising ((ls ++ k ∷ []) ++ ks) ≡ true = subst P (sym one) r in
    let now = rising-front (ls ++ k ∷ []) ks r' in
    let before = rising-front ls (k ∷ ks) r in
    let last = rank-behind ls k ks r in
    let new : key_place k ls ≡ None = key_place-past k ls before (omega arith) in
    let made = put-makes ls k d front new f in
    let keys : insert ls (key_rank k ls) k ≡ ls ++ k ∷ [] = ap (λ (i : ℕ). insert ls i k) last ∙ insert_end ls k in
    let items : insert front (key_rank k ls) d ≡ front ++ d ∷ [] = ap (λ (i : ℕ). insert front i d) (last ∙ f) ∙ insert_end front d in
    let M : List (List ℕ) → List DocTree → Type 0 = λ l zs. Makes (KeyedOf ls) (PutKey k) d front (KeyedOf l) zs in
    let m : M (ls ++ k ∷ []) (front ++ d ∷ []) = subst (λ (zs : List DocTree). M (ls ++ k ∷ []) zs) items (subst (λ (l : List (List ℕ)). M l (insert front (key_rank k ls) d)) keys made) in
    let l1 = length-append ls (k ∷ []) in
    let l2 = length-append front (y ∷ []) in
    let ih = put-acts t ks ws (ls ++ k ∷ []) (front ++ y ∷ []) ys b.1 (omega arith) (omega arith) r' in
    let goes = acts-same (ty_keyed t) (put_each ks ws) (KeyedOf (ls ++ k ∷ [])) (KeyedOf (ls ++ k ∷ [])) (KeyedOf ((ls ++ k ∷ []) ++ ks)) (KeyedOf (ls ++ k ∷ ks))
    (front ++ y ∷ []) (front ++ y ∷ []) ((front ++ y ∷ []) ++ ys) (front ++ y ∷ ys) refl refl (ap (λ (l : List (List ℕ)). KeyedOf l) one) (append_assoc front (y ∷ []) ys) ih in
    let v = hold (KeyedOf (ls ++ k ∷ ks)) (docs_of (front ++ y ∷ ys)) in
    acts-more (ty_keyed t) (shape (PutKey k)) (unless_empty (modify (Key k)) w (put_each ks ws)) (hold (KeyedOf ls) (docs_of front)) (hold (KeyedOf (ls ++ k ∷ [])) (docs_of (front ++ d ∷ []))) v
    (acts-shape kinds.Keyed t (PutKey k) (KeyedOf ls) (KeyedOf (ls ++ k ∷ [])) front (front ++ d ∷ []) m)
    (acts-there kinds.Keyed t (Key k) w (put_each ks ws) (KeyedOf (ls ++ k ∷ [])) front [] d y (length ls) v refl (place-behind ls k now) f b.0 goes)

-- ---- trees

pub graft-acts : (t : TyTree) (rs : List ℕ) (ws : List WordTree) (ys : List DocTree) (ds path tail : List ℕ) (c : ℕ) (xs zs : List DocTree)
    → Way (0 ∷ ds) 0 path → GoesOn (length path) rs → Low (c + 1) rs → HeadAtMost c tail → Built t ws ys → length rs ≡ length ys → length xs ≡ length (0 ∷ ds) → length zs ≡ length tail
    → act (ty_ordered t) (graft_each (paths_after path rs) ws) (hold (TreeOf ((0 ∷ ds) ++ tail)) (docs_of (xs ++ zs)))
    ≡ Ok (hold (TreeOf ((0 ∷ ds) ++ (rs ++ tail))) (docs_of (xs ++ (ys ++ zs))))
graft-acts t [] ws [] ds path tail c xs zs w g l h b e f k = refl
graft-acts t [] ws (y ∷ ys) ds path tail c xs zs w g l h b e f k = absurd (omega arith)
graft-acts t (d ∷ rs) ws [] ds path tail c xs zs w g l h b e f k = absurd (omega arith)
graft-acts t (d ∷ rs) [] (y ∷ ys) ds path tail c xs zs w g l h b e f k = absurd b
graft-acts t (d ∷ rs) (u ∷ ws) (y ∷ ys) ds path tail c xs zs w g l h b e f k =
    let i = initial t in
    let q = next_path path d in
    let new : List ℕ = (0 ∷ ds) ++ d ∷ tail in
    let deep : c + 1 ≤ d = l.0 in
    let after : HeadAtMost (d - 1) tail = less-head c (d - 1) tail (omega arith) h in
    let made = graft-next ds tail path d i xs zs w g.0 g.1 g.2 after f k in
    let named = next-named ds tail path d w g.0 g.1 in
    let next = way-next ds path d w g.0 g.1 in
    let n = length-next_path path d g.0 g.1 in
    let P : ℕ → Type 0 = λ m. GoesOn m rs in
    let l1 = length-append ds (d ∷ []) in
    let l2 = length-append xs (y ∷ []) in
    let ih = graft-acts t rs ws ys (ds ++ d ∷ []) q tail c (xs ++ y ∷ []) zs next (subst P (sym n) g.3) l.1 h b.1 (omega arith) (omega arith) k in
    let goes = acts-same (ty_ordered t) (graft_each (paths_after q rs) ws) (TreeOf (0 ∷ ((ds ++ d ∷ []) ++ tail))) (TreeOf new) (TreeOf (0 ∷ ((ds ++ d ∷ []) ++ (rs ++ tail)))) (TreeOf ((0 ∷ ds) ++ ((d ∷ rs) ++ tail)))
    ((xs ++ y ∷ []) ++ zs) (xs ++ y ∷ zs) ((xs ++ y ∷ []) ++ (ys ++ zs)) (xs ++ ((y ∷ ys) ++ zs))
    (ap (λ (a : List ℕ). TreeOf (0 ∷ a)) (append_assoc ds (d ∷ []) tail)) (append_assoc xs (y ∷ []) zs)
    (ap (λ (a : List ℕ). TreeOf (0 ∷ a)) (append_assoc ds (d ∷ []) (rs ++ tail))) (append_assoc xs (y ∷ []) (ys ++ zs)) ih in
    let v = hold (TreeOf ((0 ∷ ds) ++ ((d ∷ rs) ++ tail))) (docs_of (xs ++ ((y ∷ ys) ++ zs))) in
    acts-more (ty_ordered t) (shape (Graft (parent_path q))) (unless_empty (modify (Node q)) u (graft_each (paths_after q rs) ws)) (hold (TreeOf ((0 ∷ ds) ++ tail)) (docs_of (xs ++ zs)))
    (hold (TreeOf new) (docs_of (xs ++ i ∷ zs))) v
    (acts-shape kinds.Tree t (Graft (parent_path q)) (TreeOf ((0 ∷ ds) ++ tail)) (TreeOf new) (xs ++ zs) (xs ++ i ∷ zs) made)
    (acts-there kinds.Tree t (Node q) u (graft_each (paths_after q rs) ws) (TreeOf new) xs zs i y (length (0 ∷ ds)) v refl named (sym f) b.0 goes)
  where
    less-head : (c d : ℕ) (es : List ℕ) → c ≤ d → HeadAtMost c es → HeadAtMost d es
    less-head c d [] h k = tt
    less-head c d (e ∷ es) h k = omega arith
