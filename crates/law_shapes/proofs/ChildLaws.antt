-- Edits of trees, by paths and numbers of children.
use Rattle.std.proofs.Common.{◌≡◌, ℕ, ◌+◌, ◌-◌, ◌<◌, ◌≤◌, suc, zero, Bool, true, false, ◌&&◌, List, [], ◌∷◌, ◌++◌, length, take, drop, get_or, Option, Some, None, Ok, Err, refl, sym, ap, ◌∙◌, subst, arith}
use Rattle.std.specs.Prelude.{if◌then◌else◌, nat_lt, nat_eq, is_some, slice_range}
use Rattle.std.specs.List.{insert, slice_get}
use Rattle.std.specs.Option.{option_map}
use Rattle.std.proofs.lemmas.Bool.Decides.{nat_tests}
use Rattle.hold_shapes.specs.declared.shape.Shape.{Shape}
use Rattle.hold_shapes.specs.declared.shape.Shape.TheVariants.{Tree as TreeOf}
use Rattle.hold_shapes.specs.declared.origins.Origin.{Origin}
use Rattle.hold_shapes.specs.declared.origins.Origin.TheVariants.{Old, Fresh}
use Rattle.hold_shapes.specs.declared.edit.ShapeEdit.TheVariants.{Graft, Prune, Shift, Hang}
use Rattle.hold_shapes.specs.Causes.{PlanCause, Place, Range, Deep}
use Rattle.hold_shapes.specs.Trees.{is_valid, node, children, child, child_at, end_of, descendants}
use Rattle.hold_shapes.specs.Plans.{Planned, old_places, at_place, remove_part, insert_part, move_part, graft, prune, prune_child, place_for_child, shift_child, shift, moved_depths, all_at_most, hang_depths, hang_below, hang_at, hang, plan}
use Rattle.hold_shapes.proofs.OldPlaces.{length-old_places}
use Rattle.hold_shapes.proofs.ValidDepths.{Low, above-end, valid-some}
use Rattle.hold_shapes.proofs.ChildPlaces.{child-at, length-remove_part, front-length}
use Rattle.hold_shapes.proofs.Nodes.{child-numbered}
use Rattle.law_shapes.specs.Children.{child_path, children_at, origin_of, origin_at, other_child, GainsLastChild, HangsLastChild, MovesChild, LosesLastChild}
use Rattle.law_shapes.proofs.Lawful.{past}
use Rattle.law_shapes.proofs.Content.{OfPlan, of-else, end-within}
use Rattle.law_shapes.proofs.Family.{old-at, insert-is, high-moved_depths}
use Rattle.law_shapes.proofs.Parents.{part-of, below_node, deeper}
use Rattle.law_shapes.proofs.SamePrefix.{prefix-less, prefix-trans, prefix-take, node-same, node-child, node-in}
use Rattle.law_shapes.proofs.Children.{children-more, child-at_end, child-at_place, children-less, child-descendant, before-part}
use Rattle.law_shapes.proofs.OtherChildren.{past_part, slot-left, slot-for, others-inserted, others-origin, same-origin, put-back-same, length-between}
use Rattle.texts.proofs.Tests.{not_zero}

of-if : (P : Shape → List Origin → Type 0) (b : Bool) (x : Planned) (cause : PlanCause) → (b ≡ true → OfPlan P x) → OfPlan P (if b then x else Err cause)
of-if P true x cause f = f refl
of-if P false x cause f = tt

-- ---- from places to paths

children-there : (ds q : List ℕ) (p n : ℕ) → node ds q ≡ Some p → children ds p ≡ n → children_at ds q ≡ Some n
children-there ds q p n is e = ap (λ (o : Option ℕ). option_map (children ds) o) is ∙ ap Some e

child-there : (ds q : List ℕ) (p i : ℕ) (o : Option ℕ) → node ds q ≡ Some p → child ds p i ≡ o → node ds (child_path q i) ≡ o
child-there ds q p i o is e = node-child ds (Some 0) q i ∙ (ap (λ (r : Option ℕ). child_at ds i r) is ∙ e)

origin-there : (ds q : List ℕ) (from : List Origin) (p i t : ℕ) (o : Origin) → node ds q ≡ Some p → child ds p i ≡ Some t → slice_get from t ≡ Some o
    → origin_at ds from (child_path q i) ≡ Some o
origin-there ds q from p i t o is e g = ap (λ (r : Option ℕ). origin_of from r) (child-there ds q p i (Some t) is e) ∙ g

gains : (ds new q : List ℕ) (from : List Origin) (p t : ℕ) (o : Origin) → node ds q ≡ Some p → node new q ≡ Some p → children new p ≡ suc (children ds p)
    → child new p (children ds p) ≡ Some t → slice_get from t ≡ Some o → GainsLastChild ds q o (TreeOf new) from
gains ds new q from p t o is still more last g =
    let one : suc (children ds p) ≡ children ds p + 1 = omega arith in
    (children ds p, children-there ds q p (children ds p) is refl, children-there new q p (children ds p + 1) still (more ∙ one), origin-there new q from p (children ds p) t o still last g)

-- ---- the origins of an inserted part

get-part : (xs os : List Origin) (t : ℕ) (o : Origin) → t ≤ length xs → slice_get (insert_part t (o ∷ os) xs) t ≡ Some o
get-part xs os zero o h = refl
get-part [] os (suc t) o h = absurd (omega arith)
get-part (x ∷ xs) os (suc t) o h = get-part xs os t o (omega arith)

get-moved : (ds : List ℕ) (c t : ℕ) → c < length ds → t ≤ length (remove_part c (end_of ds c) (old_places (length ds)))
    → slice_get (move_part c (end_of ds c) t (old_places (length ds))) t ≡ Some (Old c)
get-moved ds c t h k =
    let os = old_places (length ds) in
    let n = descendants (get_or ds c 0) (drop (c + 1) ds) in
    let inside : c < length os = rw (length-old_places (length ds)) h in
    let P : List Origin → Type 0 = λ part. slice_get (insert_part t part (remove_part c (end_of ds c) os)) t ≡ Some (Old c) in
    let Q : Origin → Type 0 = λ o. slice_get (insert_part t (get_or os c Fresh ∷ take n (drop (c + 1) os)) (remove_part c (end_of ds c) os)) t ≡ Some o in
    subst P (sym (part-of Origin os c n Fresh inside))
    (subst Q (old-at (length ds) c h) (get-part (remove_part c (end_of ds c) os) (take n (drop (c + 1) os)) t (get_or os c Fresh) k))

same-length : (ds : List ℕ) (c : ℕ) → c < length ds → length (remove_part c (end_of ds c) (old_places (length ds))) ≡ length (remove_part c (end_of ds c) ds)
same-length ds c h =
    let os = old_places (length ds) in
    let n = length-old_places (length ds) in
    let p = length-remove_part ℕ ds c (end_of ds c) (past ds c) (end-within ds c h) in
    let e : end_of ds c ≤ length os = let w = end-within ds c h in omega arith in
    let q = length-remove_part Origin os c (end_of ds c) (past ds c) e in
    omega arith

-- ---- a part inserted as the last child

pub still-named : (ds part q : List ℕ) (p t : ℕ) → 0 < length ds → node ds q ≡ Some p → p < t → t ≤ length ds → node (insert_part t part ds) q ≡ Some p
still-named ds part q p t z is h k =
    node-same ds (insert_part t part ds) q p z is (prefix-less (p + 1) t ds (insert_part t part ds) (omega arith) (prefix-take t ds (part ++ drop t ds) k))

as-last : (ds bs q : List ℕ) (from : List Origin) (p : ℕ) (o : Origin) → 0 < length ds → node ds q ≡ Some p → Low (get_or ds p 0 + 2) bs
    → slice_get from (end_of ds p) ≡ Some o → GainsLastChild ds q o (TreeOf (insert_part (end_of ds p) ((get_or ds p 0 + 1) ∷ bs) ds)) from
as-last ds bs q from p o z is l g =
    let inside = node-in ds q p z is in
    let new = insert_part (end_of ds p) ((get_or ds p 0 + 1) ∷ bs) ds in
    let still = still-named ds ((get_or ds p 0 + 1) ∷ bs) q p (end_of ds p) z is (above-end ds p) (end-within ds p inside) in
    let more : children new p ≡ suc (children ds p) = children-more ds bs p (descendants (get_or ds p 0) (drop (p + 1) ds)) inside l (omega arith) in
    gains ds new q from p (end_of ds p) o is still more (child-at_end ds bs p inside) g

-- ---- graft

grafted : (ds q : List ℕ) (p : ℕ) → 0 < length ds → node ds q ≡ Some p
    → GainsLastChild ds q Fresh (TreeOf (insert ds (end_of ds p) (get_or ds p 0 + 1))) (insert (old_places (length ds)) (end_of ds p) Fresh)
grafted ds q p z is =
    let t = end_of ds p in
    let d = get_or ds p 0 + 1 in
    let os = old_places (length ds) in
    let inside : t ≤ length os = let n = length-old_places (length ds) in let w = end-within ds p (node-in ds q p z is) in omega arith in
    let P : List ℕ → Type 0 = λ new. GainsLastChild ds q Fresh (TreeOf new) (insert os t Fresh) in
    let Q : List Origin → Type 0 = λ from. GainsLastChild ds q Fresh (TreeOf (insert_part t (d ∷ []) ds)) from in
    subst P (sym (insert-is ℕ ds t d)) (subst Q (sym (insert-is Origin os t Fresh))
    (as-last ds [] q (insert_part t (Fresh ∷ []) os) p Fresh z is tt (get-part os [] t Fresh inside)))

of-graft : (ds q : List ℕ) (o : Option ℕ) → 0 < length ds → node ds q ≡ o → OfPlan (GainsLastChild ds q Fresh) (at_place o (graft ds))
of-graft ds q None z is = tt
of-graft ds q (Some p) z is =
    of-if (GainsLastChild ds q Fresh) (nat_lt (get_or ds p 0) 15)
    (Ok (TreeOf (insert ds (end_of ds p) (get_or ds p 0 + 1)), insert (old_places (length ds)) (end_of ds p) Fresh)) Deep (λ b. grafted ds q p z is)

-- ---- prune

nonzero : (n : ℕ) → nat_eq n 0 ≡ false → n ≡ n - 1 + 1
nonzero n h = grind (arith, nat_tests)

pruned : (ds q : List ℕ) (p c : ℕ) → 0 < length ds → node ds q ≡ Some p → nat_eq (children ds p) 0 ≡ false → child ds p (children ds p - 1) ≡ Some c
    → LosesLastChild ds q (TreeOf (remove_part c (end_of ds c) ds)) (remove_part c (end_of ds c) (old_places (length ds)))
pruned ds q p c z is some last =
    let inside = node-in ds q p z is in
    let w = child-at 0 ds p (children ds p - 1) c inside last in
    let up : p < c = w.0 in
    let within : c < length ds = w.1 in
    let e : c ≡ p + 1 + (c - (p + 1)) = omega arith in
    let new = remove_part c (end_of ds c) ds in
    let R : ℕ → Type 0 = λ m. child ds p (children ds p - 1) ≡ Some m in
    let P : ℕ → Type 0 = λ m. children ds p ≡ suc (children (remove_part m (end_of ds m) ds) p) in
    let less : children ds p ≡ suc (children new p) = subst P (sym e) (children-less ds p (children ds p - 1) (c - (p + 1)) inside (subst R e last)) in
    let n : children new p ≡ children ds p - 1 = omega arith in
    let still = node-same ds new q p z is (prefix-less (p + 1) c ds new (omega arith) (prefix-take c ds (drop (end_of ds c) ds) (omega arith))) in (
      children ds p - 1,
      c,
      children-there ds q p (children ds p - 1 + 1) is (nonzero (children ds p) some),
      child-there ds q p (children ds p - 1) (Some c) is last,
      children-there new q p (children ds p - 1) still n,
      refl,
    )

of-prune-child : (ds q : List ℕ) (p : ℕ) (o : Option ℕ) → 0 < length ds → node ds q ≡ Some p → nat_eq (children ds p) 0 ≡ false → child ds p (children ds p - 1) ≡ o
    → OfPlan (LosesLastChild ds q) (prune_child ds o)
of-prune-child ds q p None z is some last = tt
of-prune-child ds q p (Some c) z is some last = pruned ds q p c z is some last

of-prune : (ds q : List ℕ) (o : Option ℕ) → 0 < length ds → node ds q ≡ o → OfPlan (LosesLastChild ds q) (at_place o (prune ds))
of-prune ds q None z is = tt
of-prune ds q (Some p) z is =
    of-else (LosesLastChild ds q) (nat_eq (children ds p) 0) (prune_child ds (child ds p (children ds p - 1))) Range
    (λ b. of-prune-child ds q p (child ds p (children ds p - 1)) z is b refl)

-- ---- shift

low-at : (ds : List ℕ) (c d : ℕ) → get_or ds c 0 ≡ d + 1 → Low (d + 2) (below_node ds c)
low-at ds c d e =
    let P : ℕ → Type 0 = λ n. Low n (below_node ds c) in
    let two : get_or ds c 0 + 1 ≡ d + 2 = omega arith in
    subst P two (deeper (get_or ds c 0) (drop (c + 1) ds))

-- the subtree is put back as child j: before the child that has this number, or after all
put-back : (rest bs : List ℕ) (p j t : ℕ) (o : Option ℕ) → p < length rest → child rest p j ≡ o → j ≤ children rest p → Low (get_or rest p 0 + 2) bs → t ≡ place_for_child rest p o
    → (child (insert_part t ((get_or rest p 0 + 1) ∷ bs) rest) p j ≡ Some t) × (children (insert_part t ((get_or rest p 0 + 1) ∷ bs) rest) p ≡ suc (children rest p)) × (p < t) × (t ≤ length rest)
put-back rest bs p j t None h is le l e =
    let no : false ≡ nat_lt j (children rest p) = let k = child-numbered rest p j in let P : Option ℕ → Type 0 = λ o. is_some o ≡ nat_lt j (children rest p) in subst P is k in
    let last : children rest p ≡ j = grind (arith, nat_tests, no, le) in
    let P : ℕ → Type 0 = λ i. child (insert_part (end_of rest p) ((get_or rest p 0 + 1) ∷ bs) rest) p i ≡ Some (end_of rest p) in
    let Q : ℕ → Type 0 = λ u. (child (insert_part u ((get_or rest p 0 + 1) ∷ bs) rest) p j ≡ Some u) × (children (insert_part u ((get_or rest p 0 + 1) ∷ bs) rest) p ≡ suc (children rest p)) × (p < u) × (u ≤ length rest) in
    let more = children-more rest bs p (descendants (get_or rest p 0) (drop (p + 1) rest)) h l (omega arith) in
    subst Q (sym e) (subst P last (child-at_end rest bs p h), more, above-end rest p, end-within rest p h)
put-back rest bs p j t (Some c) h is le l e =
    let w = child-at 0 rest p j c h is in
    let up : p < c = w.0 in
    let n = c - (p + 1) in
    let k : c ≡ p + 1 + n = omega arith in
    let R : ℕ → Type 0 = λ m. child rest p j ≡ Some m in
    let Q : ℕ → Type 0 = λ u. (child (insert_part u ((get_or rest p 0 + 1) ∷ bs) rest) p j ≡ Some u) × (children (insert_part u ((get_or rest p 0 + 1) ∷ bs) rest) p ≡ suc (children rest p)) × (p < u) × (u ≤ length rest) in
    let is' = subst R k is in
    let more = children-more rest bs p n h l (child-descendant (p + 1) (get_or rest p 0) j n (drop (p + 1) rest) is') in
    let within : c < length rest = w.1 in
    subst Q (sym (e ∙ k)) (child-at_place rest bs p j n h is', more, omega arith, omega arith)

both-below : (i j n : ℕ) → (nat_lt i n && nat_lt j n) ≡ true → j < n
both-below i j n h = grind (arith, nat_tests)

origin-through : (ds q : List ℕ) (from : List Origin) (p i : ℕ) → node ds q ≡ Some p → origin_at ds from (child_path q i) ≡ origin_of from (child ds p i)
origin-through ds q from p i is = ap (λ (r : Option ℕ). origin_of from r) (child-there ds q p i (child ds p i) is refl)

-- the other children of the node p, before and after its child at c is moved
shifted-others : (ds bs : List ℕ) (i j p c : ℕ) → p < length ds → child ds p i ≡ Some c → Low (get_or (remove_part c (end_of ds c) ds) p 0 + 2) bs
    → slice_range ds c (end_of ds c) ≡ (get_or (remove_part c (end_of ds c) ds) p 0 + 1) ∷ bs
    → place_for_child (remove_part c (end_of ds c) ds) p (child (remove_part c (end_of ds c) ds) p j) ≤ length (remove_part c (end_of ds c) (old_places (length ds)))
    → j ≤ children (remove_part c (end_of ds c) ds) p → (k : ℕ)
    → origin_of (move_part c (end_of ds c) (place_for_child (remove_part c (end_of ds c) ds) p (child (remove_part c (end_of ds c) ds) p j)) (old_places (length ds)))
    (child (move_part c (end_of ds c) (place_for_child (remove_part c (end_of ds c) ds) p (child (remove_part c (end_of ds c) ds) p j)) ds) p (other_child j k))
    ≡ option_map Old (child ds p (other_child i k))
shifted-others ds bs i j p c inside here low part room le k =
    let w = child-at 0 ds p i c inside here in
    let end = end_of ds c in
    let rest = remove_part c end ds in
    let t = place_for_child rest p (child rest p j) in
    let m = suc (length bs) in
    let up : p < c = w.0 in
    let front : c ≤ length rest = front-length ds c end w.1 in
    let there : p < length rest = omega arith in
    let last = end-within ds c w.1 in
    let size = length-old_places (length ds) in
    let B : List ℕ → Type 0 = λ block. child (insert_part t block rest) p (other_child j k) ≡ option_map (past_part t m) (child rest p k) in
    let new : B (slice_range ds c end) = subst B (sym part) (others-inserted rest bs p j t there low (slot-for rest p j t (child rest p j) there refl le refl) k) in
    let C : List ℕ → Type 0 = λ block. child (insert_part c block rest) p (other_child i k) ≡ option_map (past_part c m) (child rest p k) in
    let D : List ℕ → Type 0 = λ list. child list p (other_child i k) ≡ option_map (past_part c m) (child rest p k) in
    let old : D ds = subst D (put-back-same ds c end (past ds c) last) (subst C (sym part) (others-inserted rest bs p i c there low (slot-left ds p i c inside here) k)) in
    let long : end - c ≡ m = sym (length-between ds c end (past ds c) last) ∙ ap length part in
    let same = same-length ds c w.1 in
    others-origin (move_part c end t (old_places (length ds))) (past_part t m) (past_part c m) (child (move_part c end t ds) p (other_child j k)) (child ds p (other_child i k)) (child rest p k) new old
    (λ x e. same-origin (length ds) c end t m x (past_part c m x) (past ds c) last room (omega arith) size long refl (child-at 0 ds p (other_child i k) (past_part c m x) inside e).1)

shifted : (ds q : List ℕ) (i j p c : ℕ) → 0 < length ds → node ds q ≡ Some p → j < children ds p → child ds p i ≡ Some c → OfPlan (MovesChild ds q i j) (shift_child ds p j (Some c))
shifted ds q i j p c z is most here =
    let inside = node-in ds q p z is in
    let w = child-at 0 ds p i c inside here in
    let up : p < c = w.0 in
    let within : c < length ds = w.1 in
    let depth : get_or ds c 0 ≡ get_or ds p 0 + 1 = w.2 in
    let end = end_of ds c in
    let rest = remove_part c end ds in
    let t = place_for_child rest p (child rest p j) in
    let new = move_part c end t ds in
    let from = move_part c end t (old_places (length ds)) in
    let e : c ≡ p + 1 + (c - (p + 1)) = omega arith in
    let R : ℕ → Type 0 = λ m. child ds p i ≡ Some m in
    let L : ℕ → Type 0 = λ m. children ds p ≡ suc (children (remove_part m (end_of ds m) ds) p) in
    let less : children ds p ≡ suc (children rest p) = subst L (sym e) (children-less ds p i (c - (p + 1)) inside (subst R e here)) in
    let same : get_or rest p 0 ≡ get_or ds p 0 = before-part ℕ 0 ds (drop end ds) c p up inside in
    let front : c ≤ length rest = front-length ds c end within in
    let bs = below_node ds c in
    let low : Low (get_or rest p 0 + 2) bs = low-at ds c (get_or rest p 0) (omega arith) in
    let back = put-back rest bs p j t (child rest p j) (omega arith) refl (omega arith) low refl in
    let top : get_or ds c 0 ≡ get_or rest p 0 + 1 = omega arith in
    let part : slice_range ds c end ≡ (get_or rest p 0 + 1) ∷ bs =
    part-of ℕ ds c (descendants (get_or ds c 0) (drop (c + 1) ds)) 0 within ∙ ap (λ (d : ℕ). d ∷ bs) top in
    let B : List ℕ → Type 0 = λ block. (child (insert_part t block rest) p j ≡ Some t) × (children (insert_part t block rest) p ≡ suc (children rest p)) × (p < t) × (t ≤ length rest) in
    let k : B (slice_range ds c end) = subst B (sym part) back in
    let one = prefix-less (p + 1) c ds rest (omega arith) (prefix-take c ds (drop end ds) (omega arith)) in
    let two = prefix-less (p + 1) t rest new (let x = k.2 in omega arith) (prefix-take t rest (slice_range ds c end ++ drop t rest) k.3) in
    let still : node new q ≡ Some p = node-same ds new q p z is (prefix-trans (p + 1) ds rest new one two) in
    let room : t ≤ length (remove_part c end (old_places (length ds))) = rw (same-length ds c within) k.3 in
    let count : children new p ≡ children ds p = k.1 ∙ sym less in (
      c,
      child-there ds q p i (Some c) is here,
      origin-there new q from p j t (Old c) still k.0 (get-moved ds c t within room),
      children-there new q p (children ds p) still count ∙ sym (children-there ds q p (children ds p) is refl),
      λ n. origin-through new q from p (other_child j n) still
          ∙ (shifted-others ds bs i j p c inside here low part room (omega arith) n
          ∙ sym (ap (λ (o : Option ℕ). option_map Old o) (child-there ds q p (other_child i n) (child ds p (other_child i n)) is refl))),
    )

of-shift-child : (ds q : List ℕ) (i j p : ℕ) (o : Option ℕ) → 0 < length ds → node ds q ≡ Some p → j < children ds p → child ds p i ≡ o → OfPlan (MovesChild ds q i j) (shift_child ds p j o)
of-shift-child ds q i j p None z is most here = tt
of-shift-child ds q i j p (Some c) z is most here = shifted ds q i j p c z is most here

of-shift : (ds q : List ℕ) (i j : ℕ) (o : Option ℕ) → 0 < length ds → node ds q ≡ o → OfPlan (MovesChild ds q i j) (at_place o (shift ds i j))
of-shift ds q i j None z is = tt
of-shift ds q i j (Some p) z is =
    of-if (MovesChild ds q i j) (nat_lt i (children ds p) && nat_lt j (children ds p)) (shift_child ds p j (child ds p i)) Range
    (λ b. of-shift-child ds q i j p (child ds p i) z is (both-below i j (children ds p) b) refl)

-- ---- hang

hung : (ds q : List ℕ) (a r : ℕ) → 0 < a → a < length ds → node (remove_part a (end_of ds a) ds) q ≡ Some r
    → GainsLastChild (remove_part a (end_of ds a) ds) q (Old a)
    (TreeOf (insert_part (end_of (remove_part a (end_of ds a) ds) r) (moved_depths (get_or ds a 0) (get_or (remove_part a (end_of ds a) ds) r 0) (slice_range ds a (end_of ds a))) (remove_part a (end_of ds a) ds)))
    (move_part a (end_of ds a) (end_of (remove_part a (end_of ds a) ds) r) (old_places (length ds)))
hung ds q a r up within is =
    let end = end_of ds a in
    let rest = remove_part a end ds in
    let t = end_of rest r in
    let d = get_or ds a 0 in
    let f = get_or rest r 0 in
    let bs = below_node ds a in
    let front : a ≤ length rest = front-length ds a end within in
    let z : 0 < length rest = omega arith in
    let inside = node-in rest q r z is in
    let top : d - d + (f + 1) ≡ f + 1 = omega arith in
    let N : ℕ → Type 0 = λ n. Low n (moved_depths d f bs) in
    let two : d - d + (f + 1) + 1 ≡ f + 2 = omega arith in
    let low : Low (f + 2) (moved_depths d f bs) = subst N two (high-moved_depths d f bs (deeper d (drop (a + 1) ds))) in
    let part : moved_depths d f (slice_range ds a end) ≡ (f + 1) ∷ moved_depths d f bs =
    ap (λ (xs : List ℕ). moved_depths d f xs) (part-of ℕ ds a (descendants d (drop (a + 1) ds)) 0 within) ∙ ap (λ (n : ℕ). n ∷ moved_depths d f bs) top in
    let room : t ≤ length (remove_part a end (old_places (length ds))) = rw (same-length ds a within) (end-within rest r inside) in
    let P : List ℕ → Type 0 = λ block. GainsLastChild rest q (Old a) (TreeOf (insert_part t block rest)) (move_part a end t (old_places (length ds))) in
    subst P (sym part) (as-last rest (moved_depths d f bs) q (move_part a end t (old_places (length ds))) r (Old a) z is low (get-moved ds a t within room))

of-deep : (b : Bool) (ds p q part : List ℕ) (a r : ℕ) → node ds p ≡ Some a
    → GainsLastChild (remove_part a (end_of ds a) ds) q (Old a) (TreeOf (insert_part (end_of (remove_part a (end_of ds a) ds) r) part (remove_part a (end_of ds a) ds)))
    (move_part a (end_of ds a) (end_of (remove_part a (end_of ds a) ds) r) (old_places (length ds)))
    → OfPlan (HangsLastChild ds p q) (hang_depths ds a (end_of ds a) (remove_part a (end_of ds a) ds) r (if b then Ok part else Err Deep))
of-deep true ds p q part a r is g = (a, is, g)
of-deep false ds p q part a r is g = tt

of-below : (ds p q : List ℕ) (a : ℕ) (o : Option ℕ) → node ds p ≡ Some a → 0 < a → a < length ds → node (remove_part a (end_of ds a) ds) q ≡ o
    → OfPlan (HangsLastChild ds p q) (at_place o (hang_below ds a (end_of ds a) (remove_part a (end_of ds a) ds)))
of-below ds p q a None is up within there = tt
of-below ds p q a (Some r) is up within there =
    let part = moved_depths (get_or ds a 0) (get_or (remove_part a (end_of ds a) ds) r 0) (slice_range ds a (end_of ds a)) in
    of-deep (all_at_most 15 part) ds p q part a r is (hung ds q a r up within there)

of-hang : (ds p q : List ℕ) (o : Option ℕ) → 0 < length ds → node ds p ≡ o → OfPlan (HangsLastChild ds p q) (at_place o (hang ds q))
of-hang ds p q None z is = tt
of-hang ds p q (Some a) z is =
    of-else (HangsLastChild ds p q) (nat_eq a 0) (hang_at ds a (end_of ds a) (remove_part a (end_of ds a) ds) q) Place
    (λ b. of-below ds p q a (node (remove_part a (end_of ds a) ds) q) is (not_zero a b) (node-in ds p a z is) refl)

-- ---- the laws

through : (P : Shape → List Origin → Type 0) (x : Planned) (t : Shape) (from : List Origin) → OfPlan P x → x ≡ Ok (t, from) → P t from
through P x t from h e = let Q : Planned → Type 0 = λ y. OfPlan P y in subst Q e h

pub graft-law : (ds q : List ℕ) (t : Shape) (from : List Origin) → is_valid ds ≡ true → plan (TreeOf ds) (Graft q) ≡ Ok (t, from) → GainsLastChild ds q Fresh t from
graft-law ds q t from v e = through (GainsLastChild ds q Fresh) (plan (TreeOf ds) (Graft q)) t from (of-graft ds q (node ds q) (valid-some ds v) refl) e

pub prune-law : (ds q : List ℕ) (t : Shape) (from : List Origin) → is_valid ds ≡ true → plan (TreeOf ds) (Prune q) ≡ Ok (t, from) → LosesLastChild ds q t from
prune-law ds q t from v e = through (LosesLastChild ds q) (plan (TreeOf ds) (Prune q)) t from (of-prune ds q (node ds q) (valid-some ds v) refl) e

pub shift-law : (ds q : List ℕ) (i j : ℕ) (t : Shape) (from : List Origin) → is_valid ds ≡ true → plan (TreeOf ds) (Shift q i j) ≡ Ok (t, from) → MovesChild ds q i j t from
shift-law ds q i j t from v e = through (MovesChild ds q i j) (plan (TreeOf ds) (Shift q i j)) t from (of-shift ds q i j (node ds q) (valid-some ds v) refl) e

pub hang-law : (ds p q : List ℕ) (t : Shape) (from : List Origin) → is_valid ds ≡ true → plan (TreeOf ds) (Hang p q) ≡ Ok (t, from) → HangsLastChild ds p q t from
hang-law ds p q t from v e = through (HangsLastChild ds p q) (plan (TreeOf ds) (Hang p q)) t from (of-hang ds p q (node ds p) (valid-some ds v) refl) e

pub ruleset child_laws = (graft-law, prune-law, shift-law, hang-law)
