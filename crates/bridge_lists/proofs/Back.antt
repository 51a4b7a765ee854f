-- Edits that take an edit of a list back.
use Rattle.std.proofs.Common.{◌≡◌, ℕ, zero, suc, ◌+◌, ◌-◌, ◌≤◌, ◌<◌, true, List, [], ◌∷◌, ◌++◌, length, map, take, drop, replicate, Some, refl, sym, ap, ◌∙◌, arith, subst}
use Rattle.std.specs.Prelude.{slice_index_or}
use Rattle.std.specs.List.{range_with_len, insert, remove}
use Rattle.std.proofs.lemmas.List.{map-append, length-append, append_assoc}
use Rattle.hold_shapes.specs.declared.edit.ShapeEdit.{ShapeEdit}
use Rattle.hold_shapes.specs.declared.edit.ShapeEdit.TheVariants.{Ins, Del, MoveItem}
use Rattle.hold_shapes.specs.Plans.{is_count}
use Rattle.bridge_links.specs.declared.link.Link.{Link}
use Rattle.bridge_links.specs.declared.link.Link.TheVariants.{Stays, Gone}
use Rattle.bridge_links.specs.Links.{same_places, moved_place, content_of, gathered}
use Rattle.bridge_lists.specs.Carried.{longer}
use Rattle.bridge_lists.specs.Laws.{edited, all_edited}
use Rattle.bridge_lists.proofs.Plans.{index-at, gathered-same, moved-list, ins-edited, del-edited, move-edited, all-one, size-longer, length-remove, length-insert}
use Rattle.bridge_lists.proofs.Edits.{both-ways}

-- ---- an insertion

gathered-front : {A : Type 0} (a : A) (front xs zs : List A) → map (content_of (front ++ (xs ++ zs)) a) (map Stays (range_with_len (length front) (length xs))) ≡ xs
gathered-front a front [] zs = refl
gathered-front a front (x ∷ xs) zs =
    let one : length (front ++ x ∷ []) ≡ length front + 1 = length-append front (x ∷ []) in
    let on : (front ++ x ∷ []) ++ (xs ++ zs) ≡ front ++ x ∷ (xs ++ zs) = append_assoc front (x ∷ []) (xs ++ zs) in
    let deeper : map (content_of (front ++ x ∷ (xs ++ zs)) a) (map Stays (range_with_len (length front + 1) (length xs))) ≡ xs =
    subst (λ n. map (content_of (front ++ x ∷ (xs ++ zs)) a) (map Stays (range_with_len n (length xs))) ≡ xs) one
    (subst (λ ys. map (content_of ys a) (map Stays (range_with_len (length (front ++ x ∷ [])) (length xs))) ≡ xs) on (gathered-front a (front ++ x ∷ []) xs zs)) in
    rw (index-at front x (xs ++ zs) a, deeper) refl

longer-list : {A : Type 0} (a : A) (c : ℕ) (xs : List A) → gathered (longer (length xs) c) a xs ≡ xs ++ map (content_of xs a) (replicate c Gone)
longer-list a c xs = map-append (content_of xs a) (same_places (length xs)) (replicate c Gone) ∙ ap (λ ys. ys ++ map (content_of xs a) (replicate c Gone)) (gathered-same a xs)

longer-size : {A : Type 0} (a : A) (c : ℕ) (xs : List A) → length (gathered (longer (length xs) c) a xs) ≡ length xs + c
longer-size a c xs = length-of (longer (length xs) c) ∙ size-longer (length xs) c
  where
    length-of : (plan : List Link) → length (map (content_of xs a) plan) ≡ length plan
    length-of [] = refl
    length-of (l ∷ plan) = ap suc (length-of plan)

pub ins-back : {A : Type 0} (a : A) (c : ℕ) (xs near : List A) → is_count c ≡ true → edited a (Ins c) xs ≡ Some near → all_edited a (Del c ∷ []) near ≡ Some xs
ins-back a c xs near k h =
    let made = gathered (longer (length xs) c) a xs in
    let w : Some made ≡ Some near = sym (ins-edited a c xs k) ∙ h in
    let same : made ≡ near = cc in
    let size = longer-size a c xs in
    let gone : edited a (Del c) made ≡ Some (gathered (same_places (length made - c)) a made) = del-edited a c made k (omega arith) in
    let left : length made - c ≡ length xs = omega arith in
    let front : gathered (same_places (length xs)) a made ≡ xs =
    ap (λ ys. gathered (same_places (length xs)) a ys) (longer-list a c xs) ∙ gathered-front a [] xs (map (content_of xs a) (replicate c Gone)) in
    subst (λ ys. all_edited a (Del c ∷ []) ys ≡ Some xs) same
    (all-one a (Del c) made xs (gone ∙ ap Some (ap (λ n. gathered (same_places n) a made) left ∙ front)))

-- ---- a move

remove-insert : {A : Type 0} (ys : List A) (j : ℕ) (x : A) → j ≤ length ys → remove (insert ys j x) j ≡ ys
remove-insert [] zero x h = refl
remove-insert [] (suc j) x h = absurd (omega arith)
remove-insert (y ∷ ys) zero x h = refl
remove-insert (y ∷ ys) (suc j) x h = ap (λ zs. y ∷ zs) (remove-insert ys j x (omega arith))

index-insert : {A : Type 0} (ys : List A) (j : ℕ) (x a : A) → j ≤ length ys → slice_index_or (insert ys j x) j a ≡ x
index-insert [] zero x a h = refl
index-insert [] (suc j) x a h = absurd (omega arith)
index-insert (y ∷ ys) zero x a h = refl
index-insert (y ∷ ys) (suc j) x a h = index-insert ys j x a (omega arith)

insert-remove : {A : Type 0} (xs : List A) (i : ℕ) (a : A) → i < length xs → insert (remove xs i) i (slice_index_or xs i a) ≡ xs
insert-remove [] i a h = absurd (omega arith)
insert-remove (y ∷ xs) zero a h = refl
insert-remove (y ∷ xs) (suc i) a h = ap (λ zs. y ∷ zs) (insert-remove xs i a (omega arith))

moved-back : {A : Type 0} (a : A) (i j : ℕ) (xs : List A) → i < length xs → j < length xs
    → insert (remove (insert (remove xs i) j (slice_index_or xs i a)) j) i (slice_index_or (insert (remove xs i) j (slice_index_or xs i a)) j a) ≡ xs
moved-back a i j xs h p =
    let r = length-remove xs i h in
    let x = slice_index_or xs i a in
    let out : remove (insert (remove xs i) j x) j ≡ remove xs i = remove-insert (remove xs i) j x (omega arith) in
    let it : slice_index_or (insert (remove xs i) j x) j a ≡ x = index-insert (remove xs i) j x a (omega arith) in
    ap (λ zs. insert zs i (slice_index_or (insert (remove xs i) j x) j a)) out ∙ (ap (λ z. insert (remove xs i) i z) it ∙ insert-remove xs i a h)

pub move-back : {A : Type 0} (a : A) (i j : ℕ) (xs near : List A) → i < length xs → j < length xs → edited a (MoveItem i j) xs ≡ Some near → all_edited a (MoveItem j i ∷ []) near ≡ Some xs
move-back a i j xs near p q h =
    let x = slice_index_or xs i a in
    let made = insert (remove xs i) j x in
    let is : gathered (moved_place (length xs) i j) a xs ≡ made = moved-list a i j xs in
    let w : Some made ≡ Some near = sym (ap Some is) ∙ (sym (move-edited a i j xs p q) ∙ h) in
    let same : made ≡ near = cc in
    let size : length made ≡ length xs = let r = length-remove xs i p in let o = length-insert (remove xs i) j x in omega arith in
    let back : edited a (MoveItem j i) made ≡ Some (gathered (moved_place (length made) j i) a made) = move-edited a j i made (omega arith) (omega arith) in
    let there : gathered (moved_place (length made) j i) a made ≡ xs = moved-list a j i made ∙ moved-back a i j xs p q in
    subst (λ ys. all_edited a (MoveItem j i ∷ []) ys ≡ Some xs) same (all-one a (MoveItem j i) made xs (back ∙ ap Some there))

-- ---- theorem: both ways

pub ins-both-ways : (c a : ℕ) (s t near : List ℕ) (edits last : List ShapeEdit) → is_count c ≡ true → edited a (Ins c) s ≡ Some near → all_edited a edits s ≡ Some t
    → all_edited a (Del c ∷ (edits ++ last)) near ≡ all_edited a last t
ins-both-ways c a s t near edits last k h e = both-ways a (Del c ∷ []) edits last near s t (ins-back a c s near k h) e

pub move-both-ways : (i j a : ℕ) (s t near : List ℕ) (edits last : List ShapeEdit) → i < length s → j < length s → edited a (MoveItem i j) s ≡ Some near → all_edited a edits s ≡ Some t
    → all_edited a (MoveItem j i ∷ (edits ++ last)) near ≡ all_edited a last t
move-both-ways i j a s t near edits last p q h e = both-ways a (MoveItem j i ∷ []) edits last near s t (move-back a i j s near p q h) e
