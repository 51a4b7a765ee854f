-- Names and depths move with their places.
use Rattle.std.proofs.Common.{◌≡◌, ℕ, ◌+◌, ◌-◌, ◌<◌, ◌≤◌, suc, zero, Bool, true, false, ◌&&◌, List, [], ◌∷◌, ◌++◌, length, map, take, drop, get_or, Option, Some, None, Ok, Err, refl, sym, ap, ◌∙◌, subst, arith}
use Rattle.std.specs.Prelude.{if◌then◌else◌, nat_lt, nat_eq, bytes_eq, slice_range}
use Rattle.std.specs.List.{insert, remove, range_with_len}
use Rattle.std.proofs.Math.ListN.{set}
use Rattle.std.proofs.lemmas.List.{take-map, drop-map, map-append, append_assoc, length-append, length-drop, length-map, length-take-le, length-set, get_or-set_same, set-get_or}
use Rattle.std.proofs.Math.Seq.{get_or-append_seam, take-append_seam, drop-append_seam}
use Rattle.std.proofs.lemmas.Slice.Eq.{bytes_eq-Decides}
use Rattle.hold_shapes.specs.declared.shape.Shape.{Shape}
use Rattle.hold_shapes.specs.declared.shape.Shape.TheVariants.{List as ListOf, Keyed as KeyedOf, Tree as TreeOf}
use Rattle.hold_shapes.specs.declared.origins.Origin.{Origin}
use Rattle.hold_shapes.specs.declared.origins.Origin.TheVariants.{Old, Fresh}
use Rattle.hold_shapes.specs.declared.edit.ShapeEdit.{ShapeEdit}
use Rattle.hold_shapes.specs.declared.edit.ShapeEdit.TheVariants.{Ins, Del, MoveItem, Reorder, PutKey, DropKey, RenameKey, Graft, Prune, Shift, Hang}
use Rattle.hold_shapes.specs.Causes.{PlanCause, Place, Range, Deep}
use Rattle.hold_shapes.specs.Gather.{content_at}
use Rattle.texts.specs.Keys.{key_from, key_place, key_rank}
use Rattle.hold_shapes.specs.Trees.{node, node_from, children, child, child_at, child_from, end_of, descendants}
use Rattle.hold_shapes.specs.Plans.{Planned, old_places, at_place, put_key, drop_key, rename_to, rename_key, plan_keyed, remove_part, insert_part, move_part, graft, prune, prune_child, place_for_child, shift_child, shift, moved_depths, all_at_most, hang_depths, hang_below, hang_at, hang, plan_list, plan_tree, plan}
use Rattle.law_shapes.specs.Laws.{renamed_at, names_after, fresh_name, hung_below, hung_at, depths_after, depth_below, fresh_depth, MovesNames, MovesDepths, KeepsContent}
use Rattle.law_shapes.proofs.Lawful.{key-within, past}
use Rattle.texts.proofs.Tests.{not_zero}

-- ---- gathering commutes with what a plan does to lists

pub map-insert : (X Y : Type 0) (f : X → Y) (xs : List X) (i : ℕ) (x : X) → map f (insert xs i x) ≡ insert (map f xs) i (f x)
map-insert X Y f [] zero x = refl
map-insert X Y f [] (suc i) x = refl
map-insert X Y f (y ∷ ys) zero x = refl
map-insert X Y f (y ∷ ys) (suc i) x = ap (λ (l : List Y). f y ∷ l) (map-insert X Y f ys i x)

map-remove : (X Y : Type 0) (f : X → Y) (xs : List X) (i : ℕ) → map f (remove xs i) ≡ remove (map f xs) i
map-remove X Y f [] zero = refl
map-remove X Y f [] (suc i) = refl
map-remove X Y f (y ∷ ys) zero = refl
map-remove X Y f (y ∷ ys) (suc i) = ap (λ (l : List Y). f y ∷ l) (map-remove X Y f ys i)

map-remove_part : (X Y : Type 0) (f : X → Y) (a e : ℕ) (xs : List X) → map f (remove_part a e xs) ≡ remove_part a e (map f xs)
map-remove_part X Y f a e xs =
    let p = map-append f (take a xs) (drop e xs) in
    let q = take-map f a xs in
    let r = drop-map f e xs in cc

map-insert_part : (X Y : Type 0) (f : X → Y) (t : ℕ) (part xs : List X) → map f (insert_part t part xs) ≡ insert_part t (map f part) (map f xs)
map-insert_part X Y f t part xs =
    let p = map-append f (take t xs) (part ++ drop t xs) in
    let o = map-append f part (drop t xs) in
    let q = take-map f t xs in
    let r = drop-map f t xs in cc

map-range : (X Y : Type 0) (f : X → Y) (a e : ℕ) (xs : List X) → map f (slice_range xs a e) ≡ slice_range (map f xs) a e
map-range X Y f a e xs =
    let p = take-map f (e - a) (drop a xs) in
    let q = drop-map f a xs in cc

map-move_part : (X Y : Type 0) (f : X → Y) (a e t : ℕ) (xs : List X) → map f (move_part a e t xs) ≡ move_part a e t (map f xs)
map-move_part X Y f a e t xs =
    let p = map-insert_part X Y f t (slice_range xs a e) (remove_part a e xs) in
    let q = map-range X Y f a e xs in
    let r = map-remove_part X Y f a e xs in cc

-- gathering by the old places in order gives what was there
in-order : (X : Type 0) (d : X) (front xs : List X) (n : ℕ) → n ≡ length front → map (content_at (front ++ xs) d) (map Old (range_with_len n (length xs))) ≡ xs
in-order X d front [] n e = refl
in-order X d front (x ∷ xs) n e =
    let one : (front ++ x ∷ []) ++ xs ≡ front ++ x ∷ xs = append_assoc front (x ∷ []) xs in
    let here : get_or (front ++ x ∷ xs) n d ≡ x = let P : ℕ → Type 0 = λ k. get_or (front ++ x ∷ xs) k d ≡ x in subst P (sym e) (get_or-append_seam front x xs d) in
    let more : n + 1 ≡ length (front ++ x ∷ []) = let l = length-append front (x ∷ []) in omega arith in
    let Q : List X → Type 0 = λ l. map (content_at l d) (map Old (range_with_len (n + 1) (length xs))) ≡ xs in
    let rest = subst Q one (in-order X d (front ++ x ∷ []) xs (n + 1) more) in
    rw (here, rest) refl

pub content-old_places : (X : Type 0) (d : X) (xs : List X) (n : ℕ) → n ≡ length xs → map (content_at xs d) (old_places n) ≡ xs
content-old_places X d xs n e =
    let P : ℕ → Type 0 = λ m. map (content_at xs d) (old_places m) ≡ xs in
    subst P (sym e) (in-order X d [] xs 0 refl)

pub content-insert : (X : Type 0) (d : X) (xs : List X) (n i : ℕ) (o : Origin) → n ≡ length xs → insert xs i (content_at xs d o) ≡ map (content_at xs d) (insert (old_places n) i o)
content-insert X d xs n i o e =
    let p = map-insert Origin X (content_at xs d) (old_places n) i o in
    let q = content-old_places X d xs n e in
    sym (p ∙ ap (λ (l : List X). insert l i (content_at xs d o)) q)

pub content-remove : (X : Type 0) (d : X) (xs : List X) (n i : ℕ) → n ≡ length xs → remove xs i ≡ map (content_at xs d) (remove (old_places n) i)
content-remove X d xs n i e =
    let p = map-remove Origin X (content_at xs d) (old_places n) i in
    let q = content-old_places X d xs n e in
    sym (p ∙ ap (λ (l : List X). remove l i) q)

pub content-remove_part : (X : Type 0) (d : X) (xs : List X) (n a b : ℕ) → n ≡ length xs → remove_part a b xs ≡ map (content_at xs d) (remove_part a b (old_places n))
content-remove_part X d xs n a b e =
    let p = map-remove_part Origin X (content_at xs d) a b (old_places n) in
    let q = content-old_places X d xs n e in
    sym (p ∙ ap (λ (l : List X). remove_part a b l) q)

pub content-move_part : (X : Type 0) (d : X) (xs : List X) (n a b t : ℕ) → n ≡ length xs → move_part a b t xs ≡ map (content_at xs d) (move_part a b t (old_places n))
content-move_part X d xs n a b t e =
    let p = map-move_part Origin X (content_at xs d) a b t (old_places n) in
    let q = content-old_places X d xs n e in
    sym (p ∙ ap (λ (l : List X). move_part a b t l) q)

-- ---- what holds of the plan, where there is one

abbrev pub OfPlan : (Shape → List Origin → Type 0) → Planned → Type 0
OfPlan P (Err fault) = Unit {0}
OfPlan P (Ok y) = P y.0 y.1

pub of-if : (P : Shape → List Origin → Type 0) (b : Bool) (x : Planned) (fault : PlanCause) → OfPlan P x → OfPlan P (if b then x else Err fault)
of-if P true x fault f = f
of-if P false x fault f = tt

pub of-else : (P : Shape → List Origin → Type 0) (b : Bool) (x : Planned) (fault : PlanCause) → (b ≡ false → OfPlan P x) → OfPlan P (if b then Err fault else x)
of-else P true x fault f = tt
of-else P false x fault f = f refl

-- ---- keyed maps

of-put : (ks : List (List ℕ)) (k : List ℕ) (o : Option ℕ) → OfPlan (MovesNames ks k) (put_key ks k o)
of-put ks k (Some p) = tt
of-put ks k None = content-insert (List ℕ) k ks (length ks) (key_rank k ks) Fresh refl

of-drop : (ks : List (List ℕ)) (o : Option ℕ) → OfPlan (MovesNames ks []) (drop_key ks o)
of-drop ks None = tt
of-drop ks (Some p) = content-remove (List ℕ) [] ks (length ks) p refl

remove-set : (X : Type 0) (xs : List X) (p : ℕ) (x : X) → remove (set xs p x) p ≡ remove xs p
remove-set X [] zero x = refl
remove-set X [] (suc p) x = refl
remove-set X (y ∷ ys) zero x = refl
remove-set X (y ∷ ys) (suc p) x = ap (λ (l : List X). y ∷ l) (remove-set X ys p x)

of-rename-to : (ks : List (List ℕ)) (m : List ℕ) (p : ℕ) (o : Option ℕ) → p < length ks → OfPlan (MovesNames (set ks p m) []) (rename_to ks m p o)
of-rename-to ks m p (Some q) h = tt
of-rename-to ks m p None h =
    let named = set ks p m in
    let n : length ks ≡ length named = sym (length-set ks p m) in
    let here : get_or named p [] ≡ m = get_or-set_same ks p m [] h in
    let outer = map-insert Origin (List ℕ) (content_at named []) (remove (old_places (length ks)) p) (key_rank m (remove ks p)) (Old p) in
    let inner = content-remove (List ℕ) [] named (length ks) p n in
    let bare = remove-set (List ℕ) ks p m in
    let both : remove ks p ≡ map (content_at named []) (remove (old_places (length ks)) p) = sym bare ∙ inner in
    sym (outer ∙ (ap (λ (x : List ℕ). insert (map (content_at named []) (remove (old_places (length ks)) p)) (key_rank m (remove ks p)) x) here
    ∙ ap (λ (l : List (List ℕ)). insert l (key_rank m (remove ks p)) m) (sym both)))

pub least-step : (b : Bool) (at p : ℕ) (o : Option ℕ) → (o ≡ Some p → at + 1 ≤ p) → (if b then Some at else o) ≡ Some p → at ≤ p
least-step true at p o f h = let e : at ≡ p = cc in omega arith
least-step false at p o f h = let e = f h in omega arith

pub least : (at p : ℕ) (k : List ℕ) (ks : List (List ℕ)) → key_from at k ks ≡ Some p → at ≤ p
least at p k [] h = cc
least at p k (m ∷ ms) h = least-step (bytes_eq k m) at p (key_from (at + 1) k ms) (least (at + 1) p k ms) h

pub found-step : (b : Bool) (at i : ℕ) (k m : List ℕ) (ms : List (List ℕ)) → bytes_eq k m ≡ b → (if b then Some at else key_from (at + 1) k ms) ≡ Some (at + i)
    → ((j : ℕ) → key_from (at + 1) k ms ≡ Some (at + 1 + j) → get_or ms j [] ≡ k) → get_or (m ∷ ms) i [] ≡ k
found-step true at zero k m ms e h f = sym ((bytes_eq-Decides k m).0 e)
found-step true at (suc i) k m ms e h f = let q : at ≡ at + suc i = cc in absurd (omega arith)
found-step false at zero k m ms e h f = let l = least (at + 1) (at + zero) k ms h in absurd (omega arith)
found-step false at (suc i) k m ms e h f =
    let q : at + suc i ≡ at + 1 + i = omega arith in
    f i (h ∙ ap Some q)

pub key-found : (at i : ℕ) (k : List ℕ) (ks : List (List ℕ)) → key_from at k ks ≡ Some (at + i) → get_or ks i [] ≡ k
key-found at i k [] h = cc
key-found at i k (m ∷ ms) h = found-step (bytes_eq k m) at i k m ms refl h (λ j. key-found (at + 1) j k ms)

same-name : (b : Bool) (ks : List (List ℕ)) (k m : List ℕ) (p : ℕ) → bytes_eq k m ≡ b → p < length ks → get_or ks p [] ≡ k
    → OfPlan (MovesNames (set ks p m) []) (if b then Ok (KeyedOf ks, old_places (length ks)) else rename_to ks m p (key_place m ks))
same-name true ks k m p e h g =
    let same : k ≡ m = (bytes_eq-Decides k m).0 e in
    let put : set ks p m ≡ ks = ap (λ (x : List ℕ). set ks p x) (sym (g ∙ same)) ∙ set-get_or ks p [] in
    let P : List (List ℕ) → Type 0 = λ l. ks ≡ map (content_at l []) (old_places (length ks)) in
    subst P (sym put) (sym (content-old_places (List ℕ) [] ks (length ks) refl))
same-name false ks k m p e h g = of-rename-to ks m p (key_place m ks) h

of-rename : (ks : List (List ℕ)) (k m : List ℕ) (o : Option ℕ) → key_place k ks ≡ o → OfPlan (MovesNames (renamed_at ks m o) []) (rename_key ks k m o)
of-rename ks k m None h = tt
of-rename ks k m (Some p) h =
    let lt = key-within 0 p k ks h in
    let z : p ≡ 0 + p = omega arith in
    same-name (bytes_eq k m) ks k m p refl (omega arith) (key-found 0 p k ks (h ∙ ap Some z))

of-keyed : (ks : List (List ℕ)) (e : ShapeEdit) → OfPlan (MovesNames (names_after e ks) (fresh_name e)) (plan_keyed ks e)
of-keyed ks (PutKey k) = of-put ks k (key_place k ks)
of-keyed ks (DropKey k) = of-drop ks (key_place k ks)
of-keyed ks (RenameKey k m) = of-rename ks k m (key_place k ks) refl
of-keyed ks (Ins c) = tt
of-keyed ks (Del c) = tt
of-keyed ks (MoveItem i j) = tt
of-keyed ks (Reorder f) = tt
of-keyed ks (Graft q) = tt
of-keyed ks (Prune q) = tt
of-keyed ks (Shift q i j) = tt
of-keyed ks (Hang p q) = tt

-- ---- trees

of-graft : (ds : List ℕ) (o : Option ℕ) → OfPlan (MovesDepths ds (depth_below ds o)) (at_place o (graft ds))
of-graft ds None = tt
of-graft ds (Some p) =
    of-if (MovesDepths ds (get_or ds p 0 + 1)) (nat_lt (get_or ds p 0) 15)
    (Ok (TreeOf (insert ds (end_of ds p) (get_or ds p 0 + 1)), insert (old_places (length ds)) (end_of ds p) Fresh)) Deep
    (content-insert ℕ (get_or ds p 0 + 1) ds (length ds) (end_of ds p) Fresh refl)

of-prune-child : (ds : List ℕ) (o : Option ℕ) → OfPlan (MovesDepths ds 0) (prune_child ds o)
of-prune-child ds None = tt
of-prune-child ds (Some c) = content-remove_part ℕ 0 ds (length ds) c (end_of ds c) refl

of-prune : (ds : List ℕ) (o : Option ℕ) → OfPlan (MovesDepths ds 0) (at_place o (prune ds))
of-prune ds None = tt
of-prune ds (Some p) =
    of-else (MovesDepths ds 0) (nat_eq (children ds p) 0) (prune_child ds (child ds p (children ds p - 1))) Range
    (λ h. of-prune-child ds (child ds p (children ds p - 1)))

of-shift-child : (ds : List ℕ) (p j : ℕ) (o : Option ℕ) → OfPlan (MovesDepths ds 0) (shift_child ds p j o)
of-shift-child ds p j None = tt
of-shift-child ds p j (Some c) =
    content-move_part ℕ 0 ds (length ds) c (end_of ds c) (place_for_child (remove_part c (end_of ds c) ds) p (child (remove_part c (end_of ds c) ds) p j)) refl

of-shift : (ds : List ℕ) (i j : ℕ) (o : Option ℕ) → OfPlan (MovesDepths ds 0) (at_place o (shift ds i j))
of-shift ds i j None = tt
of-shift ds i j (Some p) =
    of-if (MovesDepths ds 0) (nat_lt i (children ds p) && nat_lt j (children ds p)) (shift_child ds p j (child ds p i)) Range
    (of-shift-child ds p j (child ds p i))

-- the subtree of a node ends within the tree
less-step : (b : Bool) (d n : ℕ) → d ≤ n → (if b then suc d else 0) ≤ suc n
less-step true d n h = omega arith
less-step false d n h = omega arith

descendants-le : (d : ℕ) (es : List ℕ) → descendants d es ≤ length es
descendants-le d [] = omega arith
descendants-le d (e ∷ es) = less-step (nat_lt d e) (descendants d es) (length es) (descendants-le d es)

pub end-within : (ds : List ℕ) (a : ℕ) → a < length ds → end_of ds a ≤ length ds
end-within ds a h =
    let l = descendants-le (get_or ds a 0) (drop (a + 1) ds) in
    let n = length-drop (a + 1) ds in omega arith

-- ---- depths with a block replaced by as many others

block-of : (ds part : List ℕ) (a e : ℕ) → a ≤ e → e ≤ length ds → length part ≡ e - a → slice_range (take a ds ++ (part ++ drop e ds)) a e ≡ part
block-of ds part a e h k l =
    let n : length (take a ds) ≡ a = length-take-le a ds (omega arith) in
    let P : ℕ → Type 0 = λ i. drop i (take a ds ++ (part ++ drop e ds)) ≡ part ++ drop e ds in
    let back = subst P n (drop-append_seam (take a ds) (part ++ drop e ds)) in
    let Q : ℕ → Type 0 = λ i. take i (part ++ drop e ds) ≡ part in
    let front = subst Q l (take-append_seam part (drop e ds)) in
    ap (λ (x : List ℕ). take (e - a) x) back ∙ front

front-of : (ds rest : List ℕ) (a : ℕ) → a ≤ length ds → take a (take a ds ++ rest) ≡ take a ds
front-of ds rest a h =
    let P : ℕ → Type 0 = λ i. take i (take a ds ++ rest) ≡ take a ds in
    subst P (length-take-le a ds h) (take-append_seam (take a ds) rest)

back-of : (ds part : List ℕ) (a e : ℕ) → a ≤ e → e ≤ length ds → length part ≡ e - a → drop e (take a ds ++ (part ++ drop e ds)) ≡ drop e ds
back-of ds part a e h k l =
    let one = append_assoc (take a ds) part (drop e ds) in
    let n : length (take a ds ++ part) ≡ e = let p = length-append (take a ds) part in let q = length-take-le a ds (omega arith) in omega arith in
    let P : ℕ → Type 0 = λ i. drop i ((take a ds ++ part) ++ drop e ds) ≡ drop e ds in
    ap (λ (x : List ℕ). drop e x) (sym one) ∙ subst P n (drop-append_seam (take a ds ++ part) (drop e ds))

rest-of : (ds part : List ℕ) (a e : ℕ) → a ≤ e → e ≤ length ds → length part ≡ e - a → remove_part a e (take a ds ++ (part ++ drop e ds)) ≡ remove_part a e ds
rest-of ds part a e h k l =
    let p = front-of ds (part ++ drop e ds) a (omega arith) in
    let q = back-of ds part a e h k l in cc

length-of : (ds part : List ℕ) (a e : ℕ) → a ≤ e → e ≤ length ds → length part ≡ e - a → length ds ≡ length (take a ds ++ (part ++ drop e ds))
length-of ds part a e h k l =
    let p = length-append (take a ds) (part ++ drop e ds) in
    let q = length-append part (drop e ds) in
    let r = length-take-le a ds (omega arith) in
    let t = length-drop e ds in omega arith

moved_depths-moves : (ds part : List ℕ) (a e t : ℕ) → a ≤ e → e ≤ length ds → length part ≡ e - a
    → insert_part t part (remove_part a e ds) ≡ map (content_at (take a ds ++ (part ++ drop e ds)) 0) (move_part a e t (old_places (length ds)))
moved_depths-moves ds part a e t h k l =
    let p = block-of ds part a e h k l in
    let q = rest-of ds part a e h k l in
    let m : move_part a e t (take a ds ++ (part ++ drop e ds)) ≡ insert_part t part (remove_part a e ds) = cc in
    sym m ∙ content-move_part ℕ 0 (take a ds ++ (part ++ drop e ds)) (length ds) a e t (length-of ds part a e h k l)

length-moved_depths : (ds : List ℕ) (a e d r : ℕ) → a ≤ e → e ≤ length ds → length (moved_depths d r (slice_range ds a e)) ≡ e - a
length-moved_depths ds a e d r h k =
    let m = length-map (slice_range ds a e) (λ (x : ℕ). x - d + (r + 1)) in
    let t = length-take-le (e - a) (drop a ds) (let n = length-drop a ds in omega arith) in m ∙ t

of-deep : (b : Bool) (ds part : List ℕ) (a e r : ℕ) → a ≤ e → e ≤ length ds → length part ≡ e - a
    → OfPlan (MovesDepths (take a ds ++ (part ++ drop e ds)) 0) (hang_depths ds a e (remove_part a e ds) r (if b then Ok part else Err Deep))
of-deep true ds part a e r h k l = moved_depths-moves ds part a e (end_of (remove_part a e ds) r) h k l
of-deep false ds part a e r h k l = tt

of-below : (ds : List ℕ) (a e : ℕ) (o : Option ℕ) → a ≤ e → e ≤ length ds
    → OfPlan (MovesDepths (hung_below ds a e (remove_part a e ds) o) 0) (at_place o (hang_below ds a e (remove_part a e ds)))
of-below ds a e None h k = tt
of-below ds a e (Some r) h k =
    let d = get_or ds a 0 in
    let f = get_or (remove_part a e ds) r 0 in
    of-deep (all_at_most 15 (moved_depths d f (slice_range ds a e))) ds (moved_depths d f (slice_range ds a e)) a e r h k (length-moved_depths ds a e d f h k)

-- ---- a path names the root or a node within the tree

in-step : (t u v : Bool) (at q n : ℕ) (o1 o2 : Option ℕ) → (o1 ≡ Some q → (at + 1 ≤ q) × (q < at + 1 + n)) → (o2 ≡ Some q → (at + 1 ≤ q) × (q < at + 1 + n))
    → (if t then (if u then (if v then Some at else o1) else o2) else None) ≡ Some q → (at ≤ q) × (q < at + suc n)
in-step true true true at q n o1 o2 f g h = let e : at ≡ q = cc in (omega arith, omega arith)
in-step true true false at q n o1 o2 f g h = let w = f h in (let x = w.0 in omega arith, let x = w.1 in omega arith)
in-step true false v at q n o1 o2 f g h = let w = g h in (let x = w.0 in omega arith, let x = w.1 in omega arith)
in-step false u v at q n o1 o2 f g h = cc

pub child-in : (at d i q : ℕ) (es : List ℕ) → child_from at d i es ≡ Some q → (at ≤ q) × (q < at + length es)
child-in at d i q [] h = cc
child-in at d i q (e ∷ es) h =
    in-step (nat_lt d e) (nat_eq e (d + 1)) (nat_eq i 0) at q (length es) (child_from (at + 1) d (i - 1) es) (child_from (at + 1) d i es)
    (child-in (at + 1) d (i - 1) q es) (child-in (at + 1) d i q es) h

pub child-within : (ds : List ℕ) (p i q : ℕ) → child ds p i ≡ Some q → q < length ds
child-within ds p i q h =
    let w = child-in (p + 1) (get_or ds p 0) i q (drop (p + 1) ds) h in
    let x = w.0 in let y = w.1 in let n = length-drop (p + 1) ds in omega arith

abbrev pub Within : List ℕ → Option ℕ → Type 0
Within ds None = Unit {0}
Within ds (Some p) = 0 < p → p < length ds

within-some : (ds : List ℕ) (o : Option ℕ) → ((q : ℕ) → o ≡ Some q → q < length ds) → Within ds o
within-some ds None f = tt
within-some ds (Some q) f = λ h. f q refl

within-child : (ds : List ℕ) (i : ℕ) (o : Option ℕ) → Within ds (child_at ds i o)
within-child ds i None = tt
within-child ds i (Some p) = within-some ds (child ds p i) (λ q h. child-within ds p i q h)

pub node-within : (ds path : List ℕ) (o : Option ℕ) → Within ds o → Within ds (node_from ds o path)
node-within ds [] o w = w
node-within ds (i ∷ path) o w = node-within ds path (child_at ds i o) (within-child ds i o)

of-hang-at : (ds q : List ℕ) (o : Option ℕ) → Within ds o → OfPlan (MovesDepths (hung_at ds q o) 0) (at_place o (hang ds q))
of-hang-at ds q None w = tt
of-hang-at ds q (Some a) w =
    of-else (MovesDepths (hung_at ds q (Some a)) 0) (nat_eq a 0) (hang_at ds a (end_of ds a) (remove_part a (end_of ds a) ds) q) Place
    (λ h. of-below ds a (end_of ds a) (node (remove_part a (end_of ds a) ds) q) (past ds a) (end-within ds a (w (not_zero a h))))

of-hang : (ds p q : List ℕ) → OfPlan (MovesDepths (hung_at ds q (node ds p)) 0) (at_place (node ds p) (hang ds q))
of-hang ds p q = of-hang-at ds q (node ds p) (node-within ds p (Some 0) (λ h. absurd (omega arith)))

of-tree : (ds : List ℕ) (e : ShapeEdit) → OfPlan (MovesDepths (depths_after e ds) (fresh_depth e ds)) (plan_tree ds e)
of-tree ds (Graft q) = of-graft ds (node ds q)
of-tree ds (Prune q) = of-prune ds (node ds q)
of-tree ds (Shift q i j) = of-shift ds i j (node ds q)
of-tree ds (Hang p q) = of-hang ds p q
of-tree ds (Ins c) = tt
of-tree ds (Del c) = tt
of-tree ds (MoveItem i j) = tt
of-tree ds (Reorder f) = tt
of-tree ds (PutKey k) = tt
of-tree ds (DropKey k) = tt
of-tree ds (RenameKey k m) = tt

pub always : (x : Planned) → OfPlan (λ shape from. Unit {0}) x
always (Err fault) = tt
always (Ok y) = tt

of-shape : (s : Shape) (e : ShapeEdit) → OfPlan (KeepsContent e s) (plan s e)
of-shape (ListOf l) e = always (plan_list l.count e)
of-shape (KeyedOf ks) e = of-keyed ks e
of-shape (TreeOf ds) e = of-tree ds e

pub content : (s : Shape) (e : ShapeEdit) (t : Shape) (from : List Origin) → plan s e ≡ Ok (t, from) → KeepsContent e s t from
content s e t from h =
    let P : Planned → Type 0 = λ y. OfPlan (KeepsContent e s) y in
    subst P h (of-shape s e)
