-- Every plan of a tree keeps the parents of all nodes but one.
use Rattle.std.proofs.Common.{◌≡◌, ℕ, ◌+◌, ◌-◌, ◌<◌, ◌≤◌, suc, zero, Bool, true, false, ◌&&◌, List, [], ◌∷◌, ◌++◌, length, drop, get_or, Option, Some, None, Ok, Err, refl, sym, ap, ◌∙◌, subst, arith}
use Rattle.std.specs.Prelude.{if◌then◌else◌, nat_lt, nat_eq, slice_range}
use Rattle.std.specs.List.{insert}
use Rattle.std.specs.List.Sorted.{IsPermutation}
use Rattle.std.proofs.lemmas.List.{append-nil, drop_more, length-map}
use Rattle.std.proofs.lemmas.List.FromFn.{get_or-map-range_with_len}
use Rattle.std.proofs.lemmas.List.Sorted.{IsPermutation-sym, IsPermutation-trans, IsPermutation-middle}
use Rattle.hold_shapes.specs.declared.shape.Shape.{Shape}
use Rattle.hold_shapes.specs.declared.shape.Shape.TheVariants.{List as ListOf, Keyed as KeyedOf, Tree as TreeOf}
use Rattle.hold_shapes.specs.declared.origins.Origin.{Origin}
use Rattle.hold_shapes.specs.declared.origins.Origin.TheVariants.{Old, Fresh}
use Rattle.hold_shapes.specs.declared.edit.ShapeEdit.{ShapeEdit}
use Rattle.hold_shapes.specs.declared.edit.ShapeEdit.TheVariants.{Ins, Del, MoveItem, Reorder, PutKey, DropKey, RenameKey, Graft, Prune, Shift, Hang}
use Rattle.hold_shapes.specs.Causes.{Place, Range, Deep}
use Rattle.hold_shapes.specs.Trees.{node, children, child, child_at, end_of, descendants}
use Rattle.hold_shapes.specs.Plans.{Planned, old_places, at_place, remove_part, insert_part, move_part, graft, prune, prune_child, place_for_child, shift_child, shift, moved_depths, all_at_most, hang_depths, hang_below, hang_at, hang, plan_list, plan_keyed, plan_tree, plan}
use Rattle.hold_shapes.proofs.OldPlaces.{length-old_places}
use Rattle.hold_shapes.proofs.ValidDepths.{Low, HeadAtMost}
use Rattle.hold_shapes.proofs.ChildPlaces.{child-at, front-same, front-length, length-remove_part}
use Rattle.law_shapes.specs.Parents.{parents, parents_below}
use Rattle.law_shapes.specs.Laws.{OnlyMoves, MovesFamily, KeepsFamily}
use Rattle.law_shapes.proofs.Lawful.{past}
use Rattle.law_shapes.proofs.Content.{OfPlan, of-if, of-else, always, child-in, child-within, Within, node-within, end-within}
use Rattle.law_shapes.proofs.Parents.{Pairs, behind, part-of, below_node, called_below, same-below, kids_of, taken-out, put-back, deeper, below-lifted}
use Rattle.texts.proofs.Tests.{not_zero}

pub old-at : (n i : ℕ) → i < n → get_or (old_places n) i Fresh ≡ Old i
old-at n i h = get_or-map-range_with_len Old 0 n i i Fresh h (omega arith)

pub weaker : (b c : ℕ) (ds : List ℕ) → b ≤ c → HeadAtMost b ds → HeadAtMost c ds
weaker b c [] h l = tt
weaker b c (d ∷ ds) h l = omega arith

pub insert-is : (X : Type 0) (xs : List X) (t : ℕ) (x : X) → insert xs t x ≡ insert_part t (x ∷ []) xs
insert-is X [] zero x = refl
insert-is X [] (suc t) x = refl
insert-is X (y ∷ ys) zero x = refl
insert-is X (y ∷ ys) (suc t) x = ap (λ (l : List X). y ∷ l) (insert-is X ys t x)

grafted : (ds : List ℕ) (p : ℕ) → (parent : Option Origin) × IsPermutation (parents (insert ds (end_of ds p) (get_or ds p 0 + 1)) (insert (old_places (length ds)) (end_of ds p) Fresh)) ((Fresh, parent) ∷ parents ds (old_places (length ds)))
grafted ds p =
    let t = end_of ds p in
    let d = get_or ds p 0 + 1 in
    let os = old_places (length ds) in
    let w = put-back ds [] os [] t d Fresh (sym (length-old_places (length ds))) refl tt (weaker (get_or ds p 0) d (drop t ds) (omega arith) (behind ds p)) in
    let P : List ℕ → Type 0 = λ l. IsPermutation (parents l (insert os t Fresh)) ((Fresh, w.0) ∷ parents ds os) in
    let Q : List Origin → Type 0 = λ l. IsPermutation (parents (insert_part t (d ∷ []) ds) l) ((Fresh, w.0) ∷ parents ds os) in
    let R : Pairs → Type 0 = λ l. IsPermutation (parents (insert_part t (d ∷ []) ds) (insert_part t (Fresh ∷ []) os)) ((Fresh, w.0) ∷ l) in
    (w.0, subst P (sym (insert-is ℕ ds t d)) (subst Q (sym (insert-is Origin os t Fresh)) (subst R (append-nil (parents ds os)) w.1)))

pruned : (ds : List ℕ) (c : ℕ) → c < length ds
    → (lost : Pairs) × IsPermutation (parents ds (old_places (length ds))) (parents (remove_part c (end_of ds c) ds) (remove_part c (end_of ds c) (old_places (length ds))) ++ lost)
pruned ds c h =
    let os = old_places (length ds) in
    let w = taken-out ds os c (sym (length-old_places (length ds))) h in
    let rest = parents (remove_part c (end_of ds c) ds) (remove_part c (end_of ds c) os) in
    let root : Origin × Option Origin = (get_or os c Fresh, w.0) in (
      root ∷ kids_of ds os c,
      IsPermutation-trans (parents ds os) (root ∷ (rest ++ kids_of ds os c)) (rest ++ root ∷ kids_of ds os c) w.1
          (IsPermutation-sym (rest ++ root ∷ kids_of ds os c) (root ∷ (rest ++ kids_of ds os c)) (IsPermutation-middle rest root (kids_of ds os c))),
    )

-- what is left has as many depths as origins
same-rest : (ds : List ℕ) (os : List Origin) (a e : ℕ) → length ds ≡ length os → a ≤ e → e ≤ length ds → length (remove_part a e ds) ≡ length (remove_part a e os)
same-rest ds os a e h k l =
    let p = length-remove_part ℕ ds a e k l in
    let q = length-remove_part Origin os a e k (omega arith) in omega arith

-- the block of the subtree at c is put in at t of the rest
put-block : (ds : List ℕ) (os : List Origin) (c t : ℕ) → length ds ≡ length os → c < length ds → HeadAtMost (get_or ds c 0) (drop t (remove_part c (end_of ds c) ds))
    → (is : Option Origin) × IsPermutation (parents (move_part c (end_of ds c) t ds) (move_part c (end_of ds c) t os))
    ((get_or os c Fresh, is) ∷ (parents (remove_part c (end_of ds c) ds) (remove_part c (end_of ds c) os) ++ kids_of ds os c))
put-block ds os c t h lt k =
    let e = end_of ds c in
    let d = get_or ds c 0 in
    let o = get_or os c Fresh in
    let n = descendants (get_or ds c 0) (drop (c + 1) ds) in
    let rest = remove_part c e ds in
    let left = remove_part c e os in
    let w = put-back rest (below_node ds c) left (called_below ds os c) t d o (same-rest ds os c e h (past ds c) (end-within ds c lt)) (same-below ds os c h) (deeper d (drop (c + 1) ds)) k in
    let P : List ℕ → Type 0 = λ b. IsPermutation (parents (insert_part t b rest) (move_part c e t os)) ((o, w.0) ∷ (parents rest left ++ kids_of ds os c)) in
    let Q : List Origin → Type 0 = λ b. IsPermutation (parents (insert_part t (d ∷ below_node ds c) rest) (insert_part t b left)) ((o, w.0) ∷ (parents rest left ++ kids_of ds os c)) in
    (w.0, subst P (sym (part-of ℕ ds c n 0 lt)) (subst Q (sym (part-of Origin os c n Fresh (omega arith))) w.1))

-- the slot of a child of p is a place for nodes one deeper than p
place_for_child-next : (rest : List ℕ) (p j : ℕ) (o : Option ℕ) → p < length rest → child rest p j ≡ o → HeadAtMost (get_or rest p 0 + 1) (drop (place_for_child rest p o) rest)
place_for_child-next rest p j None h e = weaker (get_or rest p 0) (get_or rest p 0 + 1) (drop (end_of rest p) rest) (omega arith) (behind rest p)
place_for_child-next rest p j (Some c) h e =
    let w = child-at 0 rest p j c h e in
    let lt : c < length rest = w.1 in
    let P : List ℕ → Type 0 = λ l. HeadAtMost (get_or rest p 0 + 1) l in
    subst P (sym (drop_more rest c 0 lt)) (let same = w.2 in omega arith)

shifted : (ds : List ℕ) (p i j c : ℕ) → child ds p i ≡ Some c
    → OnlyMoves (Some c) (parents ds (old_places (length ds)))
    (parents (move_part c (end_of ds c) (place_for_child (remove_part c (end_of ds c) ds) p (child (remove_part c (end_of ds c) ds) p j)) ds)
    (move_part c (end_of ds c) (place_for_child (remove_part c (end_of ds c) ds) p (child (remove_part c (end_of ds c) ds) p j)) (old_places (length ds))))
shifted ds p i j c h =
    let e = end_of ds c in
    let os = old_places (length ds) in
    let rest = remove_part c e ds in
    let t = place_for_child rest p (child rest p j) in
    let w = child-in (p + 1) (get_or ds p 0) i c (drop (p + 1) ds) h in
    let lt : c < length ds = child-within ds p i c h in
    let up : p < c = let x = w.0 in omega arith in
    let f = child-at 0 ds p i c (omega arith) h in
    let depth : get_or rest p 0 ≡ get_or ds p 0 = front-same ds p c e up lt in
    let short = length-remove_part ℕ ds c e (past ds c) (end-within ds c lt) in
    let inside : p < length rest = let x = front-length ds c e lt in omega arith in
    let g = place_for_child-next rest p j (child rest p j) inside refl in
    let here : get_or rest p 0 + 1 ≡ get_or ds c 0 = let x = f.2 in omega arith in
    let H : ℕ → Type 0 = λ k. HeadAtMost k (drop t rest) in
    let n = sym (length-old_places (length ds)) in
    let a = taken-out ds os c n lt in
    let b = put-block ds os c t n lt (subst H here g) in
    let others = parents rest (remove_part c e os) ++ kids_of ds os c in
    let P : Origin → Type 0 = λ o. IsPermutation (parents ds os) ((o, a.0) ∷ others) in
    let Q : Origin → Type 0 = λ o. IsPermutation (parents (move_part c e t ds) (move_part c e t os)) ((o, b.0) ∷ others) in
    (a.0, b.0, others, subst P (old-at (length ds) c lt) a.1, subst Q (old-at (length ds) c lt) b.1)

-- a hung block is nowhere less deep than its root, and one deeper besides
pub high-moved_depths : (a r : ℕ) (es : List ℕ) → Low (a + 1) es → Low (a - a + (r + 1) + 1) (moved_depths a r es)
high-moved_depths a r [] l = tt
high-moved_depths a r (e ∷ es) l = (let x = l.0 in omega arith, high-moved_depths a r es l.1)

low-from : (a : ℕ) (es : List ℕ) → Low (a + 1) es → Low a es
low-from a [] l = tt
low-from a (e ∷ es) l = (let x = l.0 in omega arith, low-from a es l.1)

moved_depths-length : (a r : ℕ) (es : List ℕ) → length (moved_depths a r es) ≡ length es
moved_depths-length a r es = length-map es (λ (x : ℕ). x - a + (r + 1))

moved_depths-block : (ds : List ℕ) (os : List Origin) (c r : ℕ) → length ds ≡ length os → c < length ds
    → (is : Option Origin) × IsPermutation
    (parents (insert_part (end_of (remove_part c (end_of ds c) ds) r) (moved_depths (get_or ds c 0) (get_or (remove_part c (end_of ds c) ds) r 0) (slice_range ds c (end_of ds c))) (remove_part c (end_of ds c) ds))
    (move_part c (end_of ds c) (end_of (remove_part c (end_of ds c) ds) r) os))
    ((get_or os c Fresh, is) ∷ (parents (remove_part c (end_of ds c) ds) (remove_part c (end_of ds c) os) ++ kids_of ds os c))
moved_depths-block ds os c r h lt =
    let e = end_of ds c in
    let d = get_or ds c 0 in
    let o = get_or os c Fresh in
    let n = descendants (get_or ds c 0) (drop (c + 1) ds) in
    let rest = remove_part c e ds in
    let left = remove_part c e os in
    let t = end_of rest r in
    let f = get_or rest r 0 in
    let top = d - d + (f + 1) in
    let bs = below_node ds c in
    let cs = called_below ds os c in
    let deep = deeper d (drop (c + 1) ds) in
    let w = put-back rest (moved_depths d f bs) left cs t top o (same-rest ds os c e h (past ds c) (end-within ds c lt)) (moved_depths-length d f bs ∙ same-below ds os c h) (high-moved_depths d f bs deep)
    (weaker f top (drop t rest) (omega arith) (behind rest r)) in
    let kids : parents_below ((top, o) ∷ []) (moved_depths d f bs) cs ≡ kids_of ds os c = below-lifted d f ((d, o) ∷ []) bs cs (omega arith, tt) (low-from d bs deep) in
    let K : Pairs → Type 0 = λ k. IsPermutation (parents (insert_part t (moved_depths d f (d ∷ bs)) rest) (insert_part t (o ∷ cs) left)) ((o, w.0) ∷ (parents rest left ++ k)) in
    let P : List ℕ → Type 0 = λ b. IsPermutation (parents (insert_part t (moved_depths d f b) rest) (move_part c e t os)) ((o, w.0) ∷ (parents rest left ++ kids_of ds os c)) in
    let Q : List Origin → Type 0 = λ b. IsPermutation (parents (insert_part t (moved_depths d f (d ∷ bs)) rest) (insert_part t b left)) ((o, w.0) ∷ (parents rest left ++ kids_of ds os c)) in
    (w.0, subst P (sym (part-of ℕ ds c n 0 lt)) (subst Q (sym (part-of Origin os c n Fresh (omega arith))) (subst K kids w.1)))

moved_depths-moves : (ds : List ℕ) (c r : ℕ) → c < length ds
    → OnlyMoves (Some c) (parents ds (old_places (length ds)))
    (parents (insert_part (end_of (remove_part c (end_of ds c) ds) r) (moved_depths (get_or ds c 0) (get_or (remove_part c (end_of ds c) ds) r 0) (slice_range ds c (end_of ds c))) (remove_part c (end_of ds c) ds))
    (move_part c (end_of ds c) (end_of (remove_part c (end_of ds c) ds) r) (old_places (length ds))))
moved_depths-moves ds c r lt =
    let e = end_of ds c in
    let os = old_places (length ds) in
    let rest = remove_part c e ds in
    let t = end_of rest r in
    let new = insert_part t (moved_depths (get_or ds c 0) (get_or rest r 0) (slice_range ds c e)) rest in
    let n = sym (length-old_places (length ds)) in
    let a = taken-out ds os c n lt in
    let b = moved_depths-block ds os c r n lt in
    let others = parents rest (remove_part c e os) ++ kids_of ds os c in
    let P : Origin → Type 0 = λ o. IsPermutation (parents ds os) ((o, a.0) ∷ others) in
    let Q : Origin → Type 0 = λ o. IsPermutation (parents new (move_part c e t os)) ((o, b.0) ∷ others) in
    (a.0, b.0, others, subst P (old-at (length ds) c lt) a.1, subst Q (old-at (length ds) c lt) b.1)

-- ---- edit by edit

-- the new shape is a tree, and of it and the old one this holds
abbrev pub OfTree : (Pairs → Pairs → Type 0) → List ℕ → Shape → List Origin → Type 0
OfTree P ds (TreeOf new) from = P (parents ds (old_places (length ds))) (parents new from)
OfTree P ds shape from = ⊥

abbrev pub Grows : Pairs → Pairs → Type 0
Grows old new = (parent : Option Origin) × IsPermutation new ((Fresh, parent) ∷ old)

abbrev pub Shrinks : Pairs → Pairs → Type 0
Shrinks old new = (lost : Pairs) × IsPermutation old (new ++ lost)

of-graft : (ds : List ℕ) (o : Option ℕ) → OfPlan (OfTree Grows ds) (at_place o (graft ds))
of-graft ds None = tt
of-graft ds (Some p) =
    of-if (OfTree Grows ds) (nat_lt (get_or ds p 0) 15)
    (Ok (TreeOf (insert ds (end_of ds p) (get_or ds p 0 + 1)), insert (old_places (length ds)) (end_of ds p) Fresh)) Deep (grafted ds p)

of-prune-child : (ds : List ℕ) (o : Option ℕ) → ((c : ℕ) → o ≡ Some c → c < length ds) → OfPlan (OfTree Shrinks ds) (prune_child ds o)
of-prune-child ds None f = tt
of-prune-child ds (Some c) f = pruned ds c (f c refl)

of-prune : (ds : List ℕ) (o : Option ℕ) → OfPlan (OfTree Shrinks ds) (at_place o (prune ds))
of-prune ds None = tt
of-prune ds (Some p) =
    of-else (OfTree Shrinks ds) (nat_eq (children ds p) 0) (prune_child ds (child ds p (children ds p - 1))) Range
    (λ h. of-prune-child ds (child ds p (children ds p - 1)) (λ c e. child-within ds p (children ds p - 1) c e))

of-shift-child : (ds : List ℕ) (p i j : ℕ) (o : Option ℕ) → child ds p i ≡ o → OfPlan (OfTree (OnlyMoves o) ds) (shift_child ds p j o)
of-shift-child ds p i j None h = tt
of-shift-child ds p i j (Some c) h = shifted ds p i j c h

of-shift : (ds : List ℕ) (i j : ℕ) (o : Option ℕ) → OfPlan (OfTree (OnlyMoves (child_at ds i o)) ds) (at_place o (shift ds i j))
of-shift ds i j None = tt
of-shift ds i j (Some p) =
    of-if (OfTree (OnlyMoves (child ds p i)) ds) (nat_lt i (children ds p) && nat_lt j (children ds p)) (shift_child ds p j (child ds p i)) Range
    (of-shift-child ds p i j (child ds p i) refl)

of-deep : (b : Bool) (ds part : List ℕ) (a e r : ℕ) (P : Pairs → Pairs → Type 0)
    → P (parents ds (old_places (length ds))) (parents (insert_part (end_of (remove_part a e ds) r) part (remove_part a e ds)) (move_part a e (end_of (remove_part a e ds) r) (old_places (length ds))))
    → OfPlan (OfTree P ds) (hang_depths ds a e (remove_part a e ds) r (if b then Ok part else Err Deep))
of-deep true ds part a e r P h = h
of-deep false ds part a e r P h = tt

of-below : (ds : List ℕ) (a : ℕ) (o : Option ℕ) → a < length ds
    → OfPlan (OfTree (OnlyMoves (Some a)) ds) (at_place o (hang_below ds a (end_of ds a) (remove_part a (end_of ds a) ds)))
of-below ds a None h = tt
of-below ds a (Some r) h =
    let e = end_of ds a in
    let part = moved_depths (get_or ds a 0) (get_or (remove_part a e ds) r 0) (slice_range ds a e) in
    of-deep (all_at_most 15 part) ds part a e r (OnlyMoves (Some a)) (moved_depths-moves ds a r h)

of-hang-at : (ds q : List ℕ) (o : Option ℕ) → Within ds o → OfPlan (OfTree (OnlyMoves o) ds) (at_place o (hang ds q))
of-hang-at ds q None w = tt
of-hang-at ds q (Some a) w =
    of-else (OfTree (OnlyMoves (Some a)) ds) (nat_eq a 0) (hang_at ds a (end_of ds a) (remove_part a (end_of ds a) ds) q) Place
    (λ h. of-below ds a (node (remove_part a (end_of ds a) ds) q) (w (not_zero a h)))

of-hang : (ds p q : List ℕ) → OfPlan (OfTree (OnlyMoves (node ds p)) ds) (at_place (node ds p) (hang ds q))
of-hang ds p q = of-hang-at ds q (node ds p) (node-within ds p (Some 0) (λ h. absurd (omega arith)))

-- the same under another name, shape by shape
renamed : (P : Shape → List Origin → Type 0) (Q : Shape → List Origin → Type 0) (x : Planned) → ((s : Shape) (from : List Origin) → P s from → Q s from) → OfPlan P x → OfPlan Q x
renamed P Q (Err fault) f h = tt
renamed P Q (Ok y) f h = f y.0 y.1 h

to-graft : (ds q : List ℕ) (s : Shape) (from : List Origin) → OfTree Grows ds s from → MovesFamily (Graft q) ds s from
to-graft ds q (TreeOf new) from h = h
to-graft ds q (ListOf l) from h = h
to-graft ds q (KeyedOf ks) from h = h

to-prune : (ds q : List ℕ) (s : Shape) (from : List Origin) → OfTree Shrinks ds s from → MovesFamily (Prune q) ds s from
to-prune ds q (TreeOf new) from h = h
to-prune ds q (ListOf l) from h = h
to-prune ds q (KeyedOf ks) from h = h

to-shift : (ds q : List ℕ) (i j : ℕ) (s : Shape) (from : List Origin) → OfTree (OnlyMoves (child_at ds i (node ds q))) ds s from → MovesFamily (Shift q i j) ds s from
to-shift ds q i j (TreeOf new) from h = h
to-shift ds q i j (ListOf l) from h = h
to-shift ds q i j (KeyedOf ks) from h = h

to-hang : (ds p q : List ℕ) (s : Shape) (from : List Origin) → OfTree (OnlyMoves (node ds p)) ds s from → MovesFamily (Hang p q) ds s from
to-hang ds p q (TreeOf new) from h = h
to-hang ds p q (ListOf l) from h = h
to-hang ds p q (KeyedOf ks) from h = h

of-tree : (ds : List ℕ) (e : ShapeEdit) → OfPlan (MovesFamily e ds) (plan_tree ds e)
of-tree ds (Graft q) = renamed (OfTree Grows ds) (MovesFamily (Graft q) ds) (at_place (node ds q) (graft ds)) (to-graft ds q) (of-graft ds (node ds q))
of-tree ds (Prune q) = renamed (OfTree Shrinks ds) (MovesFamily (Prune q) ds) (at_place (node ds q) (prune ds)) (to-prune ds q) (of-prune ds (node ds q))
of-tree ds (Shift q i j) =
    renamed (OfTree (OnlyMoves (child_at ds i (node ds q))) ds) (MovesFamily (Shift q i j) ds) (at_place (node ds q) (shift ds i j)) (to-shift ds q i j) (of-shift ds i j (node ds q))
of-tree ds (Hang p q) = renamed (OfTree (OnlyMoves (node ds p)) ds) (MovesFamily (Hang p q) ds) (at_place (node ds p) (hang ds q)) (to-hang ds p q) (of-hang ds p q)
of-tree ds (Ins c) = tt
of-tree ds (Del c) = tt
of-tree ds (MoveItem i j) = tt
of-tree ds (Reorder f) = tt
of-tree ds (PutKey k) = tt
of-tree ds (DropKey k) = tt
of-tree ds (RenameKey k m) = tt

of-shape : (s : Shape) (e : ShapeEdit) → OfPlan (KeepsFamily e s) (plan s e)
of-shape (ListOf l) e = always (plan_list l.count e)
of-shape (KeyedOf ks) e = always (plan_keyed ks e)
of-shape (TreeOf ds) e = of-tree ds e

pub family : (s : Shape) (e : ShapeEdit) (t : Shape) (from : List Origin) → plan s e ≡ Ok (t, from) → KeepsFamily e s t from
family s e t from h =
    let P : Planned → Type 0 = λ y. OfPlan (KeepsFamily e s) y in
    subst P h (of-shape s e)
