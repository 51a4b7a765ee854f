-- Keyed maps whose keys go and come, one after another in byte order.
use Rattle.std.proofs.Common.{◌≡◌, ℕ, ◌+◌, ◌<◌, ◌≤◌, suc, zero, Bool, true, false, List, [], ◌∷◌, ◌++◌, length, get_or, take, drop, None, Some, Ok, refl, sym, ap, subst, ◌∙◌, arith}
use Rattle.std.specs.Prelude.{if◌then◌else◌, bytes_eq}
use Rattle.std.specs.List.{insert, remove}
use Rattle.std.proofs.lemmas.List.{append_assoc, length-append, drop_all, drop_more}
use Rattle.std.proofs.Math.Seq.{get_or-append_seam}
use Rattle.hold_shapes.specs.declared.shape.Shape.TheVariants.{Keyed as KeyedOf}
use Rattle.hold_shapes.specs.declared.edit.Place.TheVariants.{Key}
use Rattle.hold_shapes.specs.declared.edit.ShapeEdit.TheVariants.{DropKey, PutKey}
use Rattle.texts.specs.Keys.{is_rising, all_after, is_before, key_rank, key_place}
use Rattle.texts.proofs.Conjunction.{both}
use Rattle.texts.proofs.KeyOrder.{bytes_eq-refl, before-total, rising-first, rising-rest, rising-remove, key_place-found, after-tail, rank-none}
use Rattle.texts.proofs.Tests.{bytes_eq-is}
use Rattle.doc_values.specs.Documents.{DocTree, hold, docs_of}
use Rattle.doc_values.specs.Types.{TyTree, ty_keyed}
use Rattle.doc_values.specs.Initial.{initial}
use Rattle.edit_module.specs.Words.{modify, shape, WordTree, no_primitives}
use Rattle.edit_module.specs.Action.{act}
use Rattle.edit_inverse.specs.Construct.{reshape, unless_empty}
use Rattle.edit_inverse.proofs.ContainerKinds as kinds
use Rattle.edit_inverse.proofs.Moves.{Makes}
use Rattle.edit_inverse.proofs.Fills.{put-makes}
use Rattle.edit_inverse.proofs.KeyEdits.{drop-makes, key-gone, key-home}
use Rattle.edit_inverse.proofs.Acts.{acts-more, acts-shape, acts-there}
use Rattle.edit_between.specs.Between.{drop_keys, is_first, first_doc}

-- ---- seams

remove-seam : {X : Type 0} (front back : List X) (x : X) → remove (front ++ x ∷ back) (length front) ≡ front ++ back
remove-seam [] back x = refl
remove-seam (y ∷ front) back x = ap (λ (l : List _). y ∷ l) (remove-seam front back x)

insert-seam : {X : Type 0} (front back : List X) (x : X) → insert (front ++ back) (length front) x ≡ front ++ x ∷ back
insert-seam [] back x = refl
insert-seam (y ∷ front) back x = ap (λ (l : List _). y ∷ l) (insert-seam front back x)

place-seam : (front : List (List ℕ)) (k : List ℕ) (ks : List (List ℕ)) → is_rising (front ++ k ∷ ks) ≡ true → key_place k (front ++ k ∷ ks) ≡ Some (length front)
place-seam front k ks h =
    let l = length-append front (k ∷ ks) in
    let P : List ℕ → Type 0 = λ n. bytes_eq k n ≡ true in
    key_place-found k [] (front ++ k ∷ ks) (length front) h (omega arith) (subst P (sym (get_or-append_seam front k ks [])) (bytes_eq-refl k))

rising-without : (front : List (List ℕ)) (k : List ℕ) (ks : List (List ℕ)) → is_rising (front ++ k ∷ ks) ≡ true → is_rising (front ++ ks) ≡ true
rising-without front k ks h =
    let P : List (List ℕ) → Type 0 = λ l. is_rising l ≡ true in
    subst P (remove-seam front ks k) (rising-remove (front ++ k ∷ ks) (length front) h)

pub rising-back : (front ks : List (List ℕ)) → is_rising (front ++ ks) ≡ true → is_rising ks ≡ true
rising-back [] ks h = h
rising-back (m ∷ front) ks h = rising-back front ks (rising-rest m (front ++ ks) h)

after-seam : (m : List ℕ) (front : List (List ℕ)) (l : List ℕ) (ks : List (List ℕ)) → all_after m (front ++ l ∷ []) ≡ true → all_after m (front ++ l ∷ ks) ≡ true
after-seam m [] l ks h = h
after-seam m (x ∷ front) l ks h = h

rising-seam : (front : List (List ℕ)) (l : List ℕ) (ks : List (List ℕ)) → is_rising (front ++ l ∷ []) ≡ true → all_after l ks ≡ true → is_rising ks ≡ true → is_rising (front ++ l ∷ ks) ≡ true
rising-seam [] l ks h a r = both _ _ a r
rising-seam (m ∷ front) l ks h a r =
    both _ _ (after-seam m front l ks (rising-first m (front ++ l ∷ []) h)) (rising-seam front l ks (rising-rest m (front ++ l ∷ []) h) a r)

-- ---- the rank of a key

rank-zero : (l m : List ℕ) (ms : List (List ℕ)) (b : Bool) → bytes_eq l m ≡ b → is_before m l ≡ false → is_rising (m ∷ ms) ≡ true → key_rank l ms ≡ 0
rank-zero l m ms true e h r =
    let P : List ℕ → Type 0 = λ n. all_after n ms ≡ true in
    rank-none l ms (subst P (sym (bytes_eq-is l m e)) (rising-first m ms r)) (rising-rest m ms r)
rank-zero l m ms false e h r = rank-none l ms (after-tail l m ms (before-total l m h e) (rising-first m ms r)) (rising-rest m ms r)

-- behind the keys that come before another one are those that come after it, or that one is the first
splits-step : (b : Bool) (l m : List ℕ) (ms : List (List ℕ)) → is_before m l ≡ b → is_rising (m ∷ ms) ≡ true
    → (is_first l (drop (key_rank l ms) ms) ≡ false → all_after l (drop (key_rank l ms) ms) ≡ true)
    → is_first l (drop (if b then suc (key_rank l ms) else key_rank l ms) (m ∷ ms)) ≡ false → all_after l (drop (if b then suc (key_rank l ms) else key_rank l ms) (m ∷ ms)) ≡ true
splits-step true l m ms e r ih h = ih h
splits-step false l m ms e r ih h =
    let z : key_rank l ms ≡ 0 = rank-zero l m ms (bytes_eq l m) refl e r in
    let P : ℕ → Type 0 = λ n. all_after l (drop n (m ∷ ms)) ≡ true in
    let Q : ℕ → Type 0 = λ n. is_first l (drop n (m ∷ ms)) ≡ false in
    subst P (sym z) (before-total l m e (subst Q z h))

pub rank-splits : (l : List ℕ) (ks : List (List ℕ)) → is_rising ks ≡ true → is_first l (drop (key_rank l ks) ks) ≡ false → all_after l (drop (key_rank l ks) ks) ≡ true
rank-splits l [] r h = refl
rank-splits l (m ∷ ms) r h = splits-step (is_before m l) l m ms refl r (rank-splits l ms (rising-rest m ms r)) h

-- ---- keys that go

-- a word acts on a keyed map with these keys and contents
abbrev pub OnKeys : TyTree → WordTree → List (List ℕ) → List DocTree → DocTree → Type 0
OnKeys t w ks xs v = act (ty_keyed t) w (hold (KeyedOf ks) (docs_of xs)) ≡ Ok v

drop-acts : (t : TyTree) (front : List (List ℕ)) (k : List ℕ) (ks : List (List ℕ)) (xs : List DocTree) (d : DocTree) (ds : List DocTree) (rest : WordTree) (v : DocTree)
    → is_rising (front ++ k ∷ ks) ≡ true → length front ≡ length xs → length ks ≡ length ds → OnKeys t rest (front ++ ks) (xs ++ ds) v
    → OnKeys t (reshape (DropKey k) rest) (front ++ k ∷ ks) (xs ++ d ∷ ds) v
drop-acts t front k ks xs d ds rest v r e f goes =
    let all = front ++ k ∷ ks in
    let docs = xs ++ d ∷ ds in
    let l1 = length-append front (k ∷ ks) in
    let l2 = length-append xs (d ∷ ds) in
    let made = drop-makes all k (length front) (initial t) docs (place-seam front k ks r) (omega arith) in
    let M : List (List ℕ) → List DocTree → Type 0 = λ l zs. Makes (KeyedOf all) (DropKey k) (initial t) docs (KeyedOf l) zs in
    let items : remove docs (length front) ≡ xs ++ ds = ap (λ (i : ℕ). remove docs i) e ∙ remove-seam xs ds d in
    let m : M (front ++ ks) (xs ++ ds) = subst (λ (zs : List DocTree). M (front ++ ks) zs) items (subst (λ (l : List (List ℕ)). M l (remove docs (length front))) (remove-seam front ks k) made) in
    acts-more (ty_keyed t) (shape (DropKey k)) rest (hold (KeyedOf all) (docs_of docs)) (hold (KeyedOf (front ++ ks)) (docs_of (xs ++ ds))) v
    (acts-shape kinds.Keyed t (DropKey k) (KeyedOf all) (KeyedOf (front ++ ks)) docs (xs ++ ds) m) goes

-- the first n of the keys behind a front
pub drops-act : (t : TyTree) (n : ℕ) (front ks : List (List ℕ)) (xs ds : List DocTree) (rest : WordTree) (v : DocTree)
    → is_rising (front ++ ks) ≡ true → length front ≡ length xs → length ks ≡ length ds → OnKeys t rest (front ++ drop n ks) (xs ++ drop n ds) v
    → OnKeys t (drop_keys (take n ks) rest) (front ++ ks) (xs ++ ds) v
drops-act t zero front ks xs ds rest v r e f goes = goes
drops-act t (suc n) front [] xs [] rest v r e f goes = goes
drops-act t (suc n) front [] xs (d ∷ ds) rest v r e f goes = absurd (omega arith)
drops-act t (suc n) front (k ∷ ks) xs [] rest v r e f goes = absurd (omega arith)
drops-act t (suc n) front (k ∷ ks) xs (d ∷ ds) rest v r e f goes =
    drop-acts t front k ks xs d ds (drop_keys (take n ks) rest) v r e (omega arith)
    (drops-act t n front ks xs ds rest v (rising-without front k ks r) e (omega arith) goes)

pub rising-drop : (n : ℕ) (front ks : List (List ℕ)) → is_rising (front ++ ks) ≡ true → is_rising (front ++ drop n ks) ≡ true
rising-drop zero front ks r = r
rising-drop (suc n) front [] r = r
rising-drop (suc n) front (k ∷ ks) r = rising-drop n front ks (rising-without front k ks r)

-- ---- a key that comes, or is there

put-acts : (t : TyTree) (front : List (List ℕ)) (l : List ℕ) (ks : List (List ℕ)) (xs ds : List DocTree) (rest : WordTree) (v : DocTree)
    → is_rising (front ++ l ∷ ks) ≡ true → length front ≡ length xs → length ks ≡ length ds → OnKeys t rest (front ++ l ∷ ks) (xs ++ initial t ∷ ds) v
    → OnKeys t (reshape (PutKey l) rest) (front ++ ks) (xs ++ ds) v
put-acts t front l ks xs ds rest v r e f goes =
    let d = initial t in
    let all = front ++ l ∷ ks in
    let p = length front in
    let there = place-seam front l ks r in
    let keys = front ++ ks in
    let docs = xs ++ ds in
    let seam = remove-seam front ks l in
    let N : List (List ℕ) → Type 0 = λ x. key_place l x ≡ None in
    let new : key_place l keys ≡ None = subst N seam (key-gone l all p r there) in
    let home = key-home l all p r there in
    let R : List (List ℕ) → Type 0 = λ x. key_rank l x ≡ p in
    let rank : key_rank l keys ≡ p = subst R seam home.0 in
    let l1 = length-append front ks in
    let l2 = length-append xs ds in
    let made = put-makes keys l d docs new (omega arith) in
    let M : List (List ℕ) → List DocTree → Type 0 = λ a zs. Makes (KeyedOf keys) (PutKey l) d docs (KeyedOf a) zs in
    let names : insert keys (key_rank l keys) l ≡ all = ap (λ (i : ℕ). insert keys i l) rank ∙ insert-seam front ks l in
    let items : insert docs (key_rank l keys) d ≡ xs ++ d ∷ ds = ap (λ (i : ℕ). insert docs i d) (rank ∙ e) ∙ insert-seam xs ds d in
    let m : M all (xs ++ d ∷ ds) = subst (λ (zs : List DocTree). M all zs) items (subst (λ (a : List (List ℕ)). M a (insert docs (key_rank l keys) d)) names made) in
    acts-more (ty_keyed t) (shape (PutKey l)) rest (hold (KeyedOf keys) (docs_of docs)) (hold (KeyedOf all) (docs_of (xs ++ d ∷ ds))) v
    (acts-shape kinds.Keyed t (PutKey l) (KeyedOf keys) (KeyedOf all) docs (xs ++ d ∷ ds) m) goes

-- the content of a key behind a front
content-acts : (t : TyTree) (front : List (List ℕ)) (l : List ℕ) (ks : List (List ℕ)) (xs : List DocTree) (x y : DocTree) (ds : List DocTree) (w rest : WordTree) (v : DocTree)
    → is_rising (front ++ l ∷ ks) ≡ true → length front ≡ length xs → act t w x ≡ Ok y → OnKeys t rest (front ++ l ∷ ks) (xs ++ y ∷ ds) v
    → OnKeys t (unless_empty (modify (Key l)) w rest) (front ++ l ∷ ks) (xs ++ x ∷ ds) v
content-acts t front l ks xs x y ds w rest v r e a goes =
    acts-there kinds.Keyed t (Key l) w rest (KeyedOf (front ++ l ∷ ks)) xs ds x y (length front) v refl (place-seam front l ks r) e a goes

-- the same map, with the new key in front
in-front : (t : TyTree) (front : List (List ℕ)) (l : List ℕ) (ks : List (List ℕ)) (xs : List DocTree) (y : DocTree) (ds : List DocTree) (w : WordTree) (v : DocTree)
    → OnKeys t w ((front ++ l ∷ []) ++ ks) ((xs ++ y ∷ []) ++ ds) v → OnKeys t w (front ++ l ∷ ks) (xs ++ y ∷ ds) v
in-front t front l ks xs y ds w v goes =
    let P : List DocTree → Type 0 = λ zs. OnKeys t w (front ++ l ∷ ks) zs v in
    let Q : List (List ℕ) → Type 0 = λ a. OnKeys t w a ((xs ++ y ∷ []) ++ ds) v in
    subst P (append_assoc xs (y ∷ []) ds) (subst Q (append_assoc front (l ∷ []) ks) goes)

pub key-step : (b : Bool) (t : TyTree) (front : List (List ℕ)) (l : List ℕ) (ks : List (List ℕ)) (xs ds : List DocTree) (y : DocTree) (there new rest more : WordTree) (v : DocTree)
    → is_first l ks ≡ b → is_rising (front ++ ks) ≡ true → is_rising (front ++ l ∷ []) ≡ true → (b ≡ false → all_after l ks ≡ true) → length front ≡ length xs → length ks ≡ length ds
    → (0 < length ds → act t there (first_doc ds) ≡ Ok y) → act t new (initial t) ≡ Ok y
    → (b ≡ true → OnKeys t rest ((front ++ l ∷ []) ++ drop 1 ks) ((xs ++ y ∷ []) ++ drop 1 ds) v)
    → (b ≡ false → OnKeys t more ((front ++ l ∷ []) ++ ks) ((xs ++ y ∷ []) ++ ds) v)
    → OnKeys t (if b then unless_empty (modify (Key l)) there rest else reshape (PutKey l) (unless_empty (modify (Key l)) new more)) (front ++ ks) (xs ++ ds) v
key-step true t front l [] xs ds y there new rest more v h r s a e f i n g k = cc
key-step true t front l (m ∷ ks) xs [] y there new rest more v h r s a e f i n g k = absurd (omega arith)
key-step true t front l (m ∷ ks) xs (d ∷ ds) y there new rest more v h r s a e f i n g k =
    let same : l ≡ m = bytes_eq-is l m h in
    let P : List ℕ → Type 0 = λ z. OnKeys t (unless_empty (modify (Key l)) there rest) (front ++ z ∷ ks) (xs ++ d ∷ ds) v in
    let R : List ℕ → Type 0 = λ z. is_rising (front ++ z ∷ ks) ≡ true in
    subst P same (content-acts t front l ks xs d y ds there rest v (subst R (sym same) r) e (i (omega arith)) (in-front t front l ks xs y ds rest v (g refl)))
key-step false t front l ks xs ds y there new rest more v h r s a e f i n g k =
    let rising = rising-seam front l ks s (a refl) (rising-back front ks r) in
    put-acts t front l ks xs ds (unless_empty (modify (Key l)) new more) v rising e f
    (content-acts t front l ks xs (initial t) y ds new more v rising e n (in-front t front l ks xs y ds more v (k refl)))

-- ---- the keys behind a step

-- all the keys that are left go
pub drop-rest : (t : TyTree) (ks : List (List ℕ)) (ds : List DocTree) (front : List (List ℕ)) (xs : List DocTree) → length ks ≡ length ds → length front ≡ length xs → is_rising (front ++ ks) ≡ true
    → OnKeys t (drop_keys ks no_primitives) (front ++ ks) (xs ++ ds) (hold (KeyedOf (front ++ [])) (docs_of (xs ++ [])))
drop-rest t [] [] front xs a c r = refl
drop-rest t [] (d ∷ ds) front xs a c r = absurd (omega arith)
drop-rest t (k ∷ ks) [] front xs a c r = absurd (omega arith)
drop-rest t (k ∷ ks) (d ∷ ds) front xs a c r =
    drop-acts t front k ks xs d ds (drop_keys ks no_primitives) (hold (KeyedOf (front ++ [])) (docs_of (xs ++ []))) r c (omega arith)
    (drop-rest t ks ds front xs (omega arith) c (rising-without front k ks r))

pub joined-rising : (front : List (List ℕ)) (l : List ℕ) (ks : List (List ℕ)) → is_first l ks ≡ true → is_rising (front ++ ks) ≡ true → is_rising (front ++ l ∷ []) ≡ true
    → is_rising ((front ++ l ∷ []) ++ drop 1 ks) ≡ true
joined-rising front l [] h r s = cc
joined-rising front l (m ∷ ks) h r s =
    let P : List ℕ → Type 0 = λ z. is_rising (front ++ z ∷ ks) ≡ true in
    let R : List (List ℕ) → Type 0 = λ q. is_rising q ≡ true in
    subst R (sym (append_assoc front (l ∷ []) ks)) (subst P (sym (bytes_eq-is l m h)) r)

pub seam-rising : (front : List (List ℕ)) (l : List ℕ) (ks : List (List ℕ)) → is_rising (front ++ l ∷ []) ≡ true → all_after l ks ≡ true → is_rising (front ++ ks) ≡ true
    → is_rising ((front ++ l ∷ []) ++ ks) ≡ true
seam-rising front l ks s a r =
    let R : List (List ℕ) → Type 0 = λ q. is_rising q ≡ true in
    subst R (sym (append_assoc front (l ∷ []) ks)) (rising-seam front l ks s a (rising-back front ks r))

-- ---- the keys that come before another one, in a loop

pub rank-next : (k : List ℕ) (ks : List (List ℕ)) (i : ℕ) (m : List ℕ) → i < length ks → m ≡ get_or ks i m → is_before m k ≡ true
    → (drop i ks ≡ m ∷ drop (i + 1) ks) × (key_rank k (drop i ks) ≡ suc (key_rank k (drop (i + 1) ks)))
rank-next k ks i m h e b =
    let P : List ℕ → Type 0 = λ n. drop i ks ≡ n ∷ drop (i + 1) ks in
    let next : P m = subst P (sym e) (drop_more ks i m h) in
    (next, ap (λ (l : List (List ℕ)). key_rank k l) next ∙ rw b refl)

pub rank-stop : (k : List ℕ) (ks : List (List ℕ)) (i : ℕ) (m : List ℕ) → is_rising ks ≡ true → i < length ks → m ≡ get_or ks i m → is_before m k ≡ false → key_rank k (drop i ks) ≡ 0
rank-stop k ks i m r h e b =
    let P : List ℕ → Type 0 = λ n. drop i ks ≡ n ∷ drop (i + 1) ks in
    let next : P m = subst P (sym e) (drop_more ks i m h) in
    let R : List (List ℕ) → Type 0 = λ l. is_rising l ≡ true in
    let rising : is_rising (m ∷ drop (i + 1) ks) ≡ true = subst R next (rising-drop i [] ks r) in
    ap (λ (l : List (List ℕ)). key_rank k l) next ∙ (rw b (rank-zero k m (drop (i + 1) ks) (bytes_eq k m) refl b rising))

pub rank-past : (k : List ℕ) (ks : List (List ℕ)) (i : ℕ) → length ks ≤ i → key_rank k (drop i ks) ≡ 0
rank-past k ks i h = ap (λ (l : List (List ℕ)). key_rank k l) (drop_all i ks h)

pub first-at : (k : List ℕ) (ks : List (List ℕ)) (i : ℕ) (m : List ℕ) → i < length ks → m ≡ get_or ks i m → bytes_eq k m ≡ is_first k (drop i ks)
first-at k ks i m h e =
    let P : List ℕ → Type 0 = λ n. drop i ks ≡ n ∷ drop (i + 1) ks in
    let next : P m = subst P (sym e) (drop_more ks i m h) in
    ap (λ (l : List (List ℕ)). is_first k l) (sym next)

pub first-past : (k : List ℕ) (ks : List (List ℕ)) (i : ℕ) → length ks ≤ i → false ≡ is_first k (drop i ks)
first-past k ks i h = ap (λ (l : List (List ℕ)). is_first k l) (sym (drop_all i ks h))
