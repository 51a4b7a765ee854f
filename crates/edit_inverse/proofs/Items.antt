-- Edits of lists and of keyed maps that take one another back.
use Rattle.std.proofs.Common.{◌≡◌, ℕ, ◌+◌, ◌-◌, ◌<◌, ◌≤◌, suc, zero, Bool, true, false, ◌&&◌, ◌||◌, not, cond, List, [], ◌∷◌, ◌++◌, length, map, take, get_or, replicate, Ok, Err, refl, sym, ap, ◌∙◌, subst, arith}
use Rattle.std.specs.Prelude.{if◌then◌else◌, nat_lt, nat_eq, nat_le}
use Rattle.std.specs.List.{insert, remove, range_with_len, count_by}
use Rattle.std.proofs.lemmas.Bool.Decides.{nat_tests}
use Rattle.std.proofs.lemmas.List.{length-append, append_assoc, length-map, get_or-map, length-replicate}
use Rattle.std.proofs.lemmas.List.Edits.{get_or-insert_at, length-insert, length-remove}
use Rattle.std.proofs.lemmas.List.FromFn.{length-map-range_with_len}
use Rattle.std.proofs.lemmas.List.Sums.{sum_by-cons}
use Rattle.std.proofs.Math.Seq.{get_or-append_seam, take-append_seam}
use Rattle.hold_shapes.specs.declared.shape.Shape.{Shape}
use Rattle.hold_shapes.specs.declared.origins.Origin.{Origin}
use Rattle.hold_shapes.specs.declared.origins.Origin.TheVariants.{Old, Fresh}
use Rattle.hold_shapes.specs.declared.edit.ShapeEdit.{ShapeEdit}
use Rattle.hold_shapes.specs.declared.edit.ShapeEdit.TheVariants.{Ins, Del, MoveItem, Reorder}
use Rattle.hold_shapes.specs.Causes.{Place, Range, Length}
use Rattle.hold_shapes.specs.Gather.{content_at}
use Rattle.hold_shapes.specs.Plans.{plan, list_of, is_count, is_each_new, has_number, old_places}
use Rattle.texts.proofs.Conjunction.{both, first, second}
use Rattle.law_shapes.specs.Laws.{is_old}
use Rattle.law_shapes.proofs.Once.{kept}
use Rattle.law_shapes.proofs.Content.{content-old_places}
use Rattle.edit_inverse.specs.Inverse.{place_among, inverse_order}
use Rattle.law_shapes.proofs.Content.{map-insert, content-remove}
use Rattle.edit_inverse.proofs.Moves.{Makes}
use Rattle.edit_inverse.proofs.Returns.{if-ok, ok-shape, ok-origins}
use Rattle.edit_inverse.proofs.Fills.{ins-makes}

-- ---- what a plan makes, it makes alone

pub made-same : {X : Type 0} (s : Shape) (e : ShapeEdit) (u t : Shape) (from : List Origin) (fresh : X) (xs ys : List X) → Makes s e fresh xs u ys → plan s e ≡ Ok (t, from)
    → (u ≡ t) × (ys ≡ map (content_at xs fresh) from)
made-same s e u t from fresh xs ys m k =
    (ok-shape u t m.0 from (plan s e) m.1 k, sym m.2 ∙ ap (λ (l : List Origin). map (content_at xs fresh) l) (ok-origins u t m.0 from (plan s e) m.1 k))

-- an edit that takes back what was made takes back what the plan made
pub back-through : {X : Type 0} (s : Shape) (e back : ShapeEdit) (u t : Shape) (from : List Origin) (fresh : X) (xs ys : List X) → Makes s e fresh xs u ys → plan s e ≡ Ok (t, from)
    → Makes u back fresh ys s xs → Makes t back fresh (map (content_at xs fresh) from) s xs
back-through s e back u t from fresh xs ys m k b =
    let w = made-same s e u t from fresh xs ys m k in
    let P : Shape → List _ → Type 0 = λ a zs. Makes a back fresh zs s xs in
    subst (λ (a : Shape). P a (map (content_at xs fresh) from)) w.0 (subst (λ (zs : List _). P u zs) w.1 b)

-- ---- one item more, and one less

pub remove-inserted-item : {X : Type 0} (xs : List X) (i : ℕ) (x : X) → i ≤ length xs → remove (insert xs i x) i ≡ xs
remove-inserted-item xs zero x h = refl
remove-inserted-item [] (suc i) x h = absurd (omega arith)
remove-inserted-item (y ∷ xs) (suc i) x h = ap (λ (l : List _). y ∷ l) (remove-inserted-item xs i x (omega arith))

pub insert-removed-item : {X : Type 0} (xs : List X) (i : ℕ) (d : X) → i < length xs → insert (remove xs i) i (get_or xs i d) ≡ xs
insert-removed-item [] i d h = absurd (omega arith)
insert-removed-item (x ∷ xs) zero d h = refl
insert-removed-item (x ∷ xs) (suc i) d h = ap (λ (l : List _). x ∷ l) (insert-removed-item xs i d (omega arith))

-- ---- lists

both-below : (i j n : ℕ) → (nat_lt i n && nat_lt j n) ≡ true → (i < n) × (j < n)
both-below i j n h = (grind (arith, nat_tests), grind (arith, nat_tests))

both-less : (i j n : ℕ) → i < n → j < n → (nat_lt i n && nat_lt j n) ≡ true
both-less i j n h k = both (nat_lt i n) (nat_lt j n) (grind (arith, nat_tests)) (grind (arith, nat_tests))

move-makes : {X : Type 0} (n i j : ℕ) (fresh : X) (xs : List X) → i < n → j < n → n ≡ length xs → Makes (list_of n) (MoveItem i j) fresh xs (list_of n) (insert (remove xs i) j (get_or xs i fresh))
move-makes n i j fresh xs h k e =
    let from = insert (remove (old_places n) i) j (Old i) in (
      from,
      ap (λ (b : Bool). if b then Ok (list_of n, from) else Err Place) (both-less i j n h k),
      map-insert Origin _ (content_at xs fresh) (remove (old_places n) i) j (Old i) ∙ ap (λ (l : List _). insert l j (get_or xs i fresh)) (sym (content-remove _ fresh xs n i e)),
    )

pub move-back-item : {X : Type 0} (n i j : ℕ) (s : Shape) (from : List Origin) (fresh : X) (xs : List X) → n ≡ length xs → plan (list_of n) (MoveItem i j) ≡ Ok (s, from)
    → Makes s (MoveItem j i) fresh (map (content_at xs fresh) from) (list_of n) xs
move-back-item n i j s from fresh xs e k =
    let made = insert (remove (old_places n) i) j (Old i) in
    let a = if-ok (nat_lt i n && nat_lt j n) (Ok (list_of n, made)) Place (s, from) k in
    let b = both-below i j n a.0 in
    let there = move-makes n i j fresh xs b.0 b.1 e in
    let x = get_or xs i fresh in
    let rest = remove xs i in
    let ys = insert rest j x in
    let less = length-remove xs i (let l : i < n = b.0 in omega arith) in
    let room : j ≤ length rest = let l : j < n = b.1 in omega arith in
    let long = length-insert rest j x room in
    let back = move-makes n j i fresh ys b.1 b.0 (omega arith) in
    let homes : insert (remove ys j) i (get_or ys j fresh) ≡ xs =
    ap (λ (l : List _). insert l i (get_or ys j fresh)) (remove-inserted-item rest j x room)
    ∙ (ap (λ (y : _). insert rest i y) (get_or-insert_at rest j x fresh room)
    ∙ insert-removed-item xs i fresh (let l : i < n = b.0 in omega arith)) in
    let P : List _ → Type 0 = λ ws. Makes (list_of n) (MoveItem j i) fresh ys (list_of n) ws in
    back-through (list_of n) (MoveItem i j) (MoveItem j i) (list_of n) s from fresh xs ys there k (subst P homes back)

-- the first m contents
gather-front : {X : Type 0} (d : X) (front xs : List X) (k m : ℕ) → k ≡ length front → m ≤ length xs → map (content_at (front ++ xs) d) (map Old (range_with_len k m)) ≡ take m xs
gather-front d front xs k zero e h = refl
gather-front d front [] k (suc m) e h = absurd (omega arith)
gather-front d front (x ∷ xs) k (suc m) e h =
    let one : (front ++ x ∷ []) ++ xs ≡ front ++ x ∷ xs = append_assoc front (x ∷ []) xs in
    let here : get_or (front ++ x ∷ xs) k d ≡ x = let P : ℕ → Type 0 = λ i. get_or (front ++ x ∷ xs) i d ≡ x in subst P (sym e) (get_or-append_seam front x xs d) in
    let l = length-append front (x ∷ []) in
    let Q : List _ → Type 0 = λ l. map (content_at l d) (map Old (range_with_len (k + 1) m)) ≡ take m xs in
    let rest = subst Q one (gather-front d (front ++ x ∷ []) xs (k + 1) m (omega arith) (omega arith)) in
    rw (here, rest) refl

del-makes : {X : Type 0} (n c : ℕ) (fresh : X) (xs : List X) → is_count c ≡ true → c ≤ n → n ≡ length xs → Makes (list_of n) (Del c) fresh xs (list_of (n - c)) (take (n - c) xs)
del-makes n c fresh xs h k e = (
  old_places (n - c),
  ap (λ (b : Bool). if b then Ok (list_of (n - c), old_places (n - c)) else Err Range) (both (is_count c) (nat_le c n) h (grind (arith, nat_tests))),
  gather-front fresh [] xs 0 (n - c) refl (omega arith),
)

pub ins-back : {X : Type 0} (n c : ℕ) (s : Shape) (from : List Origin) (fresh : X) (xs : List X) → n ≡ length xs → plan (list_of n) (Ins c) ≡ Ok (s, from)
    → Makes s (Del c) fresh (map (content_at xs fresh) from) (list_of n) xs
ins-back n c s from fresh xs e k =
    let made = old_places n ++ replicate c Fresh in
    let a = if-ok (is_count c) (Ok (list_of (n + c), made)) Range (s, from) k in
    let there = ins-makes n c fresh xs a.0 e in
    let ys = xs ++ replicate c fresh in
    let l1 = length-append xs (replicate c fresh) in
    let l2 = length-replicate c fresh in
    let back = del-makes (n + c) c fresh ys a.0 (omega arith) (omega arith) in
    let m : n + c - c ≡ length xs = omega arith in
    let front : take (n + c - c) ys ≡ xs = ap (λ (i : ℕ). take i ys) m ∙ take-append_seam xs (replicate c fresh) in
    let count : n + c - c ≡ n = omega arith in
    let P : Shape → List _ → Type 0 = λ w ws. Makes (list_of (n + c)) (Del c) fresh ys w ws in
    let got : P (list_of n) xs = subst (λ (ws : List _). P (list_of n) ws) front (subst (λ (i : ℕ). P (list_of i) (take (n + c - c) ys)) count back) in
    back-through (list_of n) (Ins c) (Del c) (list_of (n + c)) s from fresh xs ys there k got

-- what a deletion leaves
pub del-is : {X : Type 0} (n c : ℕ) (s : Shape) (from : List Origin) (fresh : X) (xs : List X) → n ≡ length xs → plan (list_of n) (Del c) ≡ Ok (s, from)
    → (is_count c ≡ true) × (c ≤ n) × (list_of (n - c) ≡ s) × (take (n - c) xs ≡ map (content_at xs fresh) from)
del-is n c s from fresh xs e k =
    let made = old_places (n - c) in
    let a = if-ok (is_count c && nat_le c n) (Ok (list_of (n - c), made)) Range (s, from) k in
    let some = first (is_count c) (nat_le c n) a.0 in
    let less : c ≤ n = let t = second (is_count c) (nat_le c n) a.0 in grind (arith, nat_tests) in
    let there = del-makes n c fresh xs some less e in
    let w = made-same (list_of n) (Del c) (list_of (n - c)) s from fresh xs (take (n - c) xs) there k in
    (some, less, w.0, w.1)

-- ---- orders

among-step : (t : Bool) (k m : ℕ) (ms : List ℕ) → nat_eq m k ≡ t → (t ≡ false → (place_among ms k < length ms) × (get_or ms (place_among ms k) 0 ≡ k))
    → ((if t then 0 else place_among ms k + 1) < length (m ∷ ms)) × (get_or (m ∷ ms) (if t then 0 else place_among ms k + 1) 0 ≡ k)
among-step true k m ms e f = (omega arith, grind (arith, nat_tests))
among-step false k m ms e f =
    let w = f refl in
    let one : place_among ms k + 1 ≡ suc (place_among ms k) = omega arith in
    rw one (omega (arith, w.0), w.1)

abbrev mark : Bool → ℕ
mark t = cond t 1 0

old-other : (t : Bool) (k m : ℕ) → nat_eq m k ≡ false → nat_eq k m ≡ t → mark t ≡ 0
old-other true k m e h = absurd (let same : k ≡ m = grind (arith, nat_tests) in let z : nat_eq m k ≡ true = grind (arith, nat_tests) in let f : false ≡ true = sym e ∙ z in cc)
old-other false k m e h = refl

count-cons : (k : ℕ) (o : Origin) (os : List Origin) → count_by (is_old k) (o ∷ os) ≡ mark (is_old k o) + count_by (is_old k) os
count-cons k o os = sum_by-cons (λ (p : Origin). mark (is_old k p)) o os

-- a number that is among them stands at its place
found-among : (f : List ℕ) (k : ℕ) → 1 ≤ count_by (is_old k) (map Old f) → (place_among f k < length f) × (get_or f (place_among f k) 0 ≡ k)
found-among [] k h = absurd (let z : count_by (is_old k) [] ≡ 0 = refl in omega arith)
found-among (m ∷ ms) k h =
    among-step (nat_eq m k) k m ms refl
    (λ e. let c = count-cons k (Old m) (map Old ms) in
    let z : mark (nat_eq k m) ≡ 0 = old-other (nat_eq k m) k m e refl in
    found-among ms k (omega arith))

new-numbers : (n : ℕ) (f : List ℕ) (before : List ℕ) (a m : ℕ) → ((k : ℕ) → k < n → (place_among f k < n) × (get_or f (place_among f k) 0 ≡ k)) → a + m ≤ n
    → ((k : ℕ) → a ≤ k → k < n → has_number (place_among f k) before ≡ false) → is_each_new n before (map (place_among f) (range_with_len a m)) ≡ true
new-numbers n f before a zero w h fresh = refl
new-numbers n f before a (suc m) w h fresh =
    let here = w a (omega arith) in
    let lt : nat_lt (place_among f a) n ≡ true = let l : place_among f a < n = here.0 in grind (arith, nat_tests) in
    let no : not (has_number (place_among f a) before) ≡ true = ap not (fresh a (omega arith) (omega arith)) in
    both (nat_lt (place_among f a) n) (not (has_number (place_among f a) before) && is_each_new n (place_among f a ∷ before) (map (place_among f) (range_with_len (a + 1) m))) lt
    (both (not (has_number (place_among f a) before)) (is_each_new n (place_among f a ∷ before) (map (place_among f) (range_with_len (a + 1) m))) no
    (new-numbers n f (place_among f a ∷ before) (a + 1) m w (omega arith)
    (λ k up lt. other (nat_eq (place_among f k) (place_among f a)) k a (place_among f k) (place_among f a) f before refl (omega arith) (w k lt).1 here.1 (fresh k (omega arith) lt))))
  where
    other : (t : Bool) (k a i j : ℕ) (f before : List ℕ) → nat_eq i j ≡ t → a < k → get_or f i 0 ≡ k → get_or f j 0 ≡ a → has_number i before ≡ false → (t || has_number i before) ≡ false
    other true k a i j f before e lt x y z =
        let same : i ≡ j = grind (arith, nat_tests) in
        let P : ℕ → Type 0 = λ p. get_or f p 0 ≡ k in
        let bad : get_or f j 0 ≡ k = subst P same x in
        absurd (omega arith)
    other false k a i j f before e lt x y z = z

reorder-plan : (n : ℕ) (f : List ℕ) → nat_eq (length f) n ≡ true → is_each_new n [] f ≡ true → plan (list_of n) (Reorder f) ≡ Ok (list_of n, map Old f)
reorder-plan n f h k =
    ap (λ (b : Bool). if b then (if is_each_new n [] f then Ok (list_of n, map Old f) else Err Range) else Err Length) h
    ∙ ap (λ (b : Bool). if b then Ok (list_of n, map Old f) else Err Range) k

reorder-makes : {X : Type 0} (n : ℕ) (f : List ℕ) (fresh : X) (xs : List X) → nat_eq (length f) n ≡ true → is_each_new n [] f ≡ true → Makes (list_of n) (Reorder f) fresh xs (list_of n) (map (content_at xs fresh) (map Old f))
reorder-makes n f fresh xs h k = (map Old f, reorder-plan n f h k, refl)

gather-order : {X : Type 0} (n a m : ℕ) (f : List ℕ) (fresh : X) (xs : List X) → ((k : ℕ) → k < n → (place_among f k < length f) × (get_or f (place_among f k) 0 ≡ k)) → a + m ≤ n
    → map (content_at (map (content_at xs fresh) (map Old f)) fresh) (map Old (map (place_among f) (range_with_len a m))) ≡ map (content_at xs fresh) (map Old (range_with_len a m))
gather-order n a zero f fresh xs w h = refl
gather-order n a (suc m) f fresh xs w h =
    let here = w a (omega arith) in
    let l = length-map f Old in
    let in-old : place_among f a < length (map Old f) = let x : place_among f a < length f = here.0 in omega arith in
    let one : get_or (map (content_at xs fresh) (map Old f)) (place_among f a) fresh ≡ get_or xs a fresh =
    get_or-map (content_at xs fresh) (map Old f) (place_among f a) Fresh fresh in-old
    ∙ (ap (content_at xs fresh) (get_or-map Old f (place_among f a) 0 Fresh here.0)
    ∙ ap (λ (i : ℕ). get_or xs i fresh) here.1) in
    let rest = gather-order n (a + 1) m f fresh xs w (omega arith) in
    rw (one, rest) refl

-- in an order each place below its length is among the numbers
pub all-among : (f : List ℕ) → is_each_new (length f) [] f ≡ true → (k : ℕ) → k < length f → (place_among f k < length f) × (get_or f (place_among f k) 0 ≡ k)
all-among f h k lt =
    let n = length f in
    let size : nat_eq n n ≡ true = grind (arith, nat_tests) in
    let all = (kept (list_of n) (Reorder f) (list_of n) (map Old f) (reorder-plan n f size h)).0 in
    let c = all k lt in
    found-among f k (omega arith)

pub reorder-back : {X : Type 0} (n : ℕ) (f : List ℕ) (s : Shape) (from : List Origin) (fresh : X) (xs : List X) → n ≡ length xs → plan (list_of n) (Reorder f) ≡ Ok (s, from)
    → Makes s (Reorder (inverse_order f)) fresh (map (content_at xs fresh) from) (list_of n) xs
reorder-back n f s from fresh xs e k =
    let a = if-ok (nat_eq (length f) n) (if is_each_new n [] f then Ok (list_of n, map Old f) else Err Range) Length (s, from) k in
    let b = if-ok (is_each_new n [] f) (Ok (list_of n, map Old f)) Range (s, from) a.1 in
    let long : length f ≡ n = let t = a.0 in grind (arith, nat_tests) in
    let is = ok-shape (list_of n) s (map Old f) from (Ok (list_of n, map Old f)) refl b.1 in
    let origins = ok-origins (list_of n) s (map Old f) from (Ok (list_of n, map Old f)) refl b.1 in
    let all = (kept (list_of n) (Reorder f) s from k).0 in
    let K : List Origin → Type 0 = λ l. (i : ℕ) → i < n → count_by (is_old i) l ≡ 1 in
    let each : K (map Old f) = subst K (sym origins) all in
    let w : (i : ℕ) → i < n → (place_among f i < length f) × (get_or f (place_among f i) 0 ≡ i) = λ i lt. let c = each i lt in found-among f i (omega arith) in
    let v : (i : ℕ) → i < n → (place_among f i < n) × (get_or f (place_among f i) 0 ≡ i) = λ i lt. (let x = (w i lt).0 in omega arith, (w i lt).1) in
    let g = inverse_order f in
    let R : ℕ → Type 0 = λ m. is_each_new n [] (map (place_among f) (range_with_len 0 m)) ≡ true in
    let new : is_each_new n [] g ≡ true = subst R (sym long) (new-numbers n f [] 0 n v (omega arith) (λ i up lt. refl)) in
    let count : length g ≡ length f = length-map-range_with_len (place_among f) 0 (length f) in
    let size : nat_eq (length g) n ≡ true = let z : length g ≡ n = omega arith in grind (arith, nat_tests) in
    let ys = map (content_at xs fresh) (map Old f) in
    let back = reorder-makes n g fresh ys size new in
    let Q : ℕ → Type 0 = λ m. map (content_at ys fresh) (map Old (map (place_among f) (range_with_len 0 m))) ≡ xs in
    let homes : map (content_at ys fresh) (map Old g) ≡ xs = subst Q (sym long) (gather-order n 0 n f fresh xs w (omega arith) ∙ content-old_places _ fresh xs n e) in
    let P : List _ → Type 0 = λ ws. Makes (list_of n) (Reorder g) fresh ys (list_of n) ws in
    back-through (list_of n) (Reorder f) (Reorder g) (list_of n) s from fresh xs ys (reorder-makes n f fresh xs a.0 b.0) k (subst P homes back)
