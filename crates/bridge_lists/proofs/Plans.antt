-- What plans of lists make of contents, by links.
use Rattle.std.proofs.Common.{◌≡◌, ℕ, zero, suc, ◌+◌, ◌-◌, ◌≤◌, ◌<◌, Bool, true, false, List, [], ◌∷◌, ◌++◌, length, map, take, drop, replicate, Option, Some, None, Ok, Err, refl, sym, ap, ◌∙◌, arith, subst, append-nil}
use Rattle.std.specs.Prelude.{if◌then◌else◌, ◌&&◌, nat_eq, nat_lt, nat_le, slice_index_or, slice_get, option_and_then}
use Rattle.std.specs.List.{range_with_len, insert, remove}
use Rattle.std.proofs.lemmas.List.{map-append, length-append, length-map, take-append-drop, length-replicate, append_assoc}
use Rattle.std.proofs.lemmas.List.FromFn.{length-map-range_with_len}
use Rattle.std.proofs.lemmas.Bool.Decides.{nat_tests}
use Rattle.hold_shapes.specs.declared.origins.Origin.{Origin}
use Rattle.hold_shapes.specs.declared.origins.Origin.TheVariants.{Old, Fresh}
use Rattle.hold_shapes.specs.declared.edit.ShapeEdit.{ShapeEdit}
use Rattle.hold_shapes.specs.declared.edit.ShapeEdit.TheVariants.{Ins, Del, MoveItem, Reorder}
use Rattle.hold_shapes.specs.Gather.{content_at}
use Rattle.hold_shapes.specs.Plans.{Planned, old_places, list_of, is_count, is_each_new}
use Rattle.hold_shapes.specs.Causes.{Range, Place, Length}
use Rattle.bridge_links.proofs.Stays.{moved-same}
use Rattle.bridge_links.specs.declared.link.Link.{Link}
use Rattle.bridge_links.specs.declared.link.Link.TheVariants.{Stays, Moved, Gone, Missed}
use Rattle.bridge_links.specs.Links.{same_places, mover, moved_place, content_of, gathered}
use Rattle.bridge_lists.specs.Carried.{longer, move_edit, del_edit, is_range, order_edit}
use Rattle.bridge_lists.proofs.FarOrders.{range-is}
use Rattle.bridge_lists.specs.Laws.{contents_of, edited, all_edited}

-- ---- a plan, by its tests

planned-if : {A : Type 0} (a : A) (xs : List A) (t : Bool) (p other : Planned) → t ≡ true → contents_of a xs (if t then p else other) ≡ contents_of a xs p
planned-if a xs true p other h = refl
planned-if a xs false p other h = absurd cc

both-true : (s t : Bool) → s ≡ true → t ≡ true → (s && t) ≡ true
both-true true t h k = k
both-true false t h k = absurd cc

below-true : (i n : ℕ) → i < n → nat_lt i n ≡ true
below-true i n h = grind (arith, nat_tests)

le-true : (i n : ℕ) → i ≤ n → nat_le i n ≡ true
le-true i n h = grind (arith, nat_tests)

-- ---- old places, as origins and as links

old-same : {A : Type 0} (xs : List A) (a : A) (r : List ℕ) → map (content_at xs a) (map Old r) ≡ map (content_of xs a) (map Stays r)
old-same xs a [] = refl
old-same xs a (k ∷ r) = ap (λ ys. slice_index_or xs k a ∷ ys) (old-same xs a r)

fresh-gone : {A : Type 0} (xs : List A) (a : A) (c : ℕ) → map (content_at xs a) (replicate c Fresh) ≡ map (content_of xs a) (replicate c Gone)
fresh-gone xs a zero = refl
fresh-gone xs a (suc c) = ap (λ ys. a ∷ ys) (fresh-gone xs a c)

map-insert : {A B : Type 0} (f : A → B) (xs : List A) (i : ℕ) (x : A) → map f (insert xs i x) ≡ insert (map f xs) i (f x)
map-insert f [] zero x = refl
map-insert f [] (suc i) x = refl
map-insert f (y ∷ xs) zero x = refl
map-insert f (y ∷ xs) (suc i) x = ap (λ ys. f y ∷ ys) (map-insert f xs i x)

map-remove : {A B : Type 0} (f : A → B) (xs : List A) (i : ℕ) → map f (remove xs i) ≡ remove (map f xs) i
map-remove f [] zero = refl
map-remove f [] (suc i) = refl
map-remove f (y ∷ xs) zero = refl
map-remove f (y ∷ xs) (suc i) = ap (λ ys. f y ∷ ys) (map-remove f xs i)

mover-content : {A : Type 0} (xs : List A) (a : A) (i j : ℕ) → content_of xs a (mover i j) ≡ slice_index_or xs i a
mover-content xs a i j = of-test (nat_eq i j)
  where
    of-test : (b : Bool) → content_of xs a (if b then Stays i else Moved i) ≡ slice_index_or xs i a
    of-test true = refl
    of-test false = refl

-- ---- the three edits

pub ins-edited : {A : Type 0} (a : A) (c : ℕ) (xs : List A) → is_count c ≡ true → edited a (Ins c) xs ≡ Some (gathered (longer (length xs) c) a xs)
ins-edited a c xs h =
    planned-if a xs (is_count c) (Ok (list_of (length xs + c), old_places (length xs) ++ replicate c Fresh)) (Err Range) h
    ∙ ap Some (
    map-append (content_at xs a) (old_places (length xs)) (replicate c Fresh)
    ∙ (ap (λ ys. ys ++ map (content_at xs a) (replicate c Fresh)) (old-same xs a (range_with_len 0 (length xs)))
    ∙ (ap (λ ys. map (content_of xs a) (same_places (length xs)) ++ ys) (fresh-gone xs a c) ∙ sym (map-append (content_of xs a) (same_places (length xs)) (replicate c Gone))))
    )

pub del-edited : {A : Type 0} (a : A) (c : ℕ) (xs : List A) → is_count c ≡ true → c ≤ length xs → edited a (Del c) xs ≡ Some (gathered (same_places (length xs - c)) a xs)
del-edited a c xs h p =
    planned-if a xs (is_count c && nat_le c (length xs)) (Ok (list_of (length xs - c), old_places (length xs - c))) (Err Range) (both-true (is_count c) (nat_le c (length xs)) h (le-true c (length xs) p))
    ∙ ap Some (old-same xs a (range_with_len 0 (length xs - c)))

-- the item is taken out, and put in at its new place
moved-by : {A : Type 0} (a : A) (i j : ℕ) (xs : List A) → gathered (moved_place (length xs) i j) a xs ≡ insert (remove (map (content_of xs a) (same_places (length xs))) i) j (slice_index_or xs i a)
moved-by a i j xs =
    let n = length xs in
    map-insert (content_of xs a) (remove (same_places n) i) j (mover i j)
    ∙ (ap (λ y. insert (map (content_of xs a) (remove (same_places n) i)) j y) (mover-content xs a i j)
    ∙ ap (λ ys. insert ys j (slice_index_or xs i a)) (map-remove (content_of xs a) (same_places n) i))

pub move-edited : {A : Type 0} (a : A) (i j : ℕ) (xs : List A) → i < length xs → j < length xs → edited a (MoveItem i j) xs ≡ Some (gathered (moved_place (length xs) i j) a xs)
move-edited a i j xs h p =
    let n = length xs in
    let same : map (content_at xs a) (old_places n) ≡ map (content_of xs a) (same_places n) = old-same xs a (range_with_len 0 n) in
    let olds : map (content_at xs a) (insert (remove (old_places n) i) j (Old i)) ≡ insert (remove (map (content_at xs a) (old_places n)) i) j (slice_index_or xs i a) =
    map-insert (content_at xs a) (remove (old_places n) i) j (Old i) ∙ ap (λ ys. insert ys j (slice_index_or xs i a)) (map-remove (content_at xs a) (old_places n) i) in
    planned-if a xs (nat_lt i n && nat_lt j n) (Ok (list_of n, insert (remove (old_places n) i) j (Old i))) (Err Place) (both-true (nat_lt i n) (nat_lt j n) (below-true i n h) (below-true j n p))
    ∙ ap Some (olds ∙ (ap (λ ys. insert (remove ys i) j (slice_index_or xs i a)) same ∙ sym (moved-by a i j xs)))

-- ---- edits that may be left out

-- a list gathered from itself
pub index-at : {A : Type 0} (front : List A) (x : A) (xs : List A) (a : A) → slice_index_or (front ++ x ∷ xs) (length front) a ≡ x
index-at [] x xs a = refl
index-at (y ∷ front) x xs a = index-at front x xs a

gathered-same-from : {A : Type 0} (a : A) (front xs : List A) → map (content_of (front ++ xs) a) (map Stays (range_with_len (length front) (length xs))) ≡ xs
gathered-same-from a front [] = refl
gathered-same-from a front (x ∷ xs) =
    let one : length (front ++ x ∷ []) ≡ length front + 1 = length-append front (x ∷ []) in
    let on : (front ++ x ∷ []) ++ xs ≡ front ++ x ∷ xs = append_assoc front (x ∷ []) xs in
    let deeper : map (content_of (front ++ x ∷ xs) a) (map Stays (range_with_len (length front + 1) (length xs))) ≡ xs =
    subst (λ n. map (content_of (front ++ x ∷ xs) a) (map Stays (range_with_len n (length xs))) ≡ xs) one
    (subst (λ ys. map (content_of ys a) (map Stays (range_with_len (length (front ++ x ∷ [])) (length xs))) ≡ xs) on (gathered-same-from a (front ++ x ∷ []) xs)) in
    rw (index-at front x xs a, deeper) refl

pub gathered-same : {A : Type 0} (a : A) (xs : List A) → gathered (same_places (length xs)) a xs ≡ xs
gathered-same a xs = gathered-same-from a [] xs

-- a plan that moves an item takes it out and puts it in
pub moved-list : {A : Type 0} (a : A) (i j : ℕ) (xs : List A) → gathered (moved_place (length xs) i j) a xs ≡ insert (remove xs i) j (slice_index_or xs i a)
moved-list a i j xs = moved-by a i j xs ∙ ap (λ ys. insert (remove ys i) j (slice_index_or xs i a)) (gathered-same a xs)

-- a plan that moves an item to its place
pub gathered-there : {A : Type 0} (a : A) (xs : List A) (i : ℕ) → i < length xs → gathered (moved_place (length xs) i i) a xs ≡ xs
gathered-there a xs i h = ap (λ plan. gathered plan a xs) (sym (moved-same (length xs) i i h refl)) ∙ gathered-same a xs

pub all-one : {A : Type 0} (a : A) (e : ShapeEdit) (xs ys : List A) → edited a e xs ≡ Some ys → all_edited a (e ∷ []) xs ≡ Some ys
all-one a e xs ys h = ap (λ o. option_and_then (all_edited a []) o) h

move-by-test : {A : Type 0} (a : A) (y g : ℕ) (xs : List A) (b : Bool) → nat_eq y g ≡ b → y < length xs → g < length xs
    → all_edited a (if b then [] else MoveItem y g ∷ []) xs ≡ Some (gathered (moved_place (length xs) y g) a xs)
move-by-test a y g xs true e h p =
    let same : y ≡ g = grind (arith, nat_tests) in
    ap Some (sym (ap (λ k. gathered (moved_place (length xs) y k) a xs) (sym same) ∙ gathered-there a xs y h))
move-by-test a y g xs false e h p = all-one a (MoveItem y g) xs (gathered (moved_place (length xs) y g) a xs) (move-edited a y g xs h p)

pub move-all : {A : Type 0} (a : A) (y g : ℕ) (xs : List A) → y < length xs → g < length xs → all_edited a (move_edit y g) xs ≡ Some (gathered (moved_place (length xs) y g) a xs)
move-all a y g xs h p = move-by-test a y g xs (nat_eq y g) refl h p

pub ins-all : {A : Type 0} (a : A) (c : ℕ) (xs : List A) → is_count c ≡ true → all_edited a (Ins c ∷ []) xs ≡ Some (gathered (longer (length xs) c) a xs)
ins-all a c xs h = all-one a (Ins c) xs (gathered (longer (length xs) c) a xs) (ins-edited a c xs h)

del-by-test : {A : Type 0} (a : A) (d : ℕ) (xs : List A) (b : Bool) → nat_eq d 0 ≡ b → d ≤ length xs → (0 < d → is_count d ≡ true)
    → all_edited a (if b then [] else Del d ∷ []) xs ≡ Some (gathered (same_places (length xs - d)) a xs)
del-by-test a d xs true e h k =
    let z : d ≡ 0 = grind (arith, nat_tests) in
    let n : length xs ≡ length xs - d = omega arith in
    ap Some (sym (gathered-same a xs) ∙ ap (λ m. gathered (same_places m) a xs) n)
del-by-test a d xs false e h k = all-one a (Del d) xs (gathered (same_places (length xs - d)) a xs) (del-edited a d xs (k (some d e)) h)
  where
    some : (d : ℕ) → nat_eq d 0 ≡ false → 0 < d
    some zero e = absurd cc
    some (suc d) e = omega arith

pub del-all : {A : Type 0} (a : A) (d : ℕ) (xs : List A) → d ≤ length xs → (0 < d → is_count d ≡ true) → all_edited a (del_edit d) xs ≡ Some (gathered (same_places (length xs - d)) a xs)
del-all a d xs h k = del-by-test a d xs (nat_eq d 0) refl h k

eq-true : (a b : ℕ) → a ≡ b → nat_eq a b ≡ true
eq-true a b h = grind (arith, nat_tests)

pub order-edited : {A : Type 0} (a : A) (f : List ℕ) (xs : List A) → length f ≡ length xs → is_each_new (length xs) [] f ≡ true → edited a (Reorder f) xs ≡ Some (gathered (map Stays f) a xs)
order-edited a f xs h k =
    let n = length xs in
    planned-if a xs (nat_eq (length f) n) (if is_each_new n [] f then Ok (list_of n, map Old f) else Err Range) (Err Length) (eq-true (length f) n h)
    ∙ (planned-if a xs (is_each_new n [] f) (Ok (list_of n, map Old f)) (Err Range) k ∙ ap Some (old-same xs a f))

-- an order whose items were moved there
pub gathered-moved : {A : Type 0} (a : A) (f : List ℕ) (xs : List A) → gathered (map Moved f) a xs ≡ gathered (map Stays f) a xs
gathered-moved a [] xs = refl
gathered-moved a (k ∷ f) xs = ap (λ ys. slice_index_or xs k a ∷ ys) (gathered-moved a f xs)

order-by-test : {A : Type 0} (a : A) (g : List ℕ) (xs : List A) (b : Bool) → is_range 0 g ≡ b → length g ≡ length xs → is_each_new (length xs) [] g ≡ true
    → all_edited a (if b then [] else Reorder g ∷ []) xs ≡ Some (gathered (map Stays g) a xs)
order-by-test a g xs true e h k =
    let same : g ≡ range_with_len 0 (length xs) = range-is 0 g e ∙ ap (λ n. range_with_len 0 n) h in
    ap Some (sym (ap (λ f. gathered (map Stays f) a xs) same ∙ gathered-same a xs))
order-by-test a g xs false e h k = all-one a (Reorder g) xs (gathered (map Stays g) a xs) (order-edited a g xs h k)

pub order-all : {A : Type 0} (a : A) (g : List ℕ) (xs : List A) → length g ≡ length xs → is_each_new (length xs) [] g ≡ true → all_edited a (order_edit g) xs ≡ Some (gathered (map Stays g) a xs)
order-all a g xs h k = order-by-test a g xs (is_range 0 g) refl h k

-- edits, and others behind them
pub all-behind : {A : Type 0} (a : A) (es fs : List ShapeEdit) (xs ys : List A) → all_edited a es xs ≡ Some ys → all_edited a (es ++ fs) xs ≡ all_edited a fs ys
all-behind {A = A} a [] fs xs ys h = let e : xs ≡ ys = cc in ap (λ zs. all_edited a fs zs) e
all-behind {A = A} a (e ∷ es) fs xs ys h = of-first (edited a e xs) refl h (λ zs g. all-behind a es fs zs ys g)
  where
    of-first : (o : Option (List A)) → edited a e xs ≡ o → option_and_then (all_edited a es) o ≡ Some ys → ((zs : List A) → all_edited a es zs ≡ Some ys → all_edited a (es ++ fs) zs ≡ all_edited a fs ys)
        → option_and_then (all_edited a (es ++ fs)) o ≡ all_edited a fs ys
    of-first None k g deeper = absurd cc
    of-first (Some zs) k g deeper = deeper zs g

-- ---- sizes

pub size-same : (n : ℕ) → length (same_places n) ≡ n
size-same n = length-map-range_with_len Stays 0 n

pub size-longer : (n c : ℕ) → length (longer n c) ≡ n + c
size-longer n c = let a = length-append (same_places n) (replicate c Gone) in let b = size-same n in let d = length-replicate c Gone in omega arith

pub length-insert : {X : Type 0} (xs : List X) (j : ℕ) (x : X) → length (insert xs j x) ≡ length xs + 1
length-insert [] zero x = omega arith
length-insert [] (suc j) x = omega arith
length-insert (y ∷ xs) zero x = omega arith
length-insert (y ∷ xs) (suc j) x = let w = length-insert xs j x in omega arith

pub length-remove : {X : Type 0} (xs : List X) (i : ℕ) → i < length xs → length (remove xs i) + 1 ≡ length xs
length-remove [] i h = absurd (omega arith)
length-remove (y ∷ xs) zero h = omega arith
length-remove (y ∷ xs) (suc i) h = let w = length-remove xs i (omega arith) in omega arith

pub size-moved : (n i j : ℕ) → i < n → length (moved_place n i j) ≡ n
size-moved n i j h =
    let s = size-same n in
    let r = length-remove (same_places n) i (omega arith) in
    let w = length-insert (remove (same_places n) i) j (mover i j) in
    omega arith
