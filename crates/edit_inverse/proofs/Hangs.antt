-- A hang taken back: by a hang below the old parent, and a shift to the old number.
use Rattle.std.proofs.Common.{◌≡◌, ℕ, ◌+◌, ◌-◌, ◌<◌, ◌≤◌, suc, zero, Bool, true, false, List, [], ◌∷◌, ◌++◌, length, map, take, drop, get_or, Option, Some, None, Ok, Err, refl, sym, ap, ◌∙◌, subst, arith}
use Rattle.std.specs.Prelude.{if◌then◌else◌, nat_eq, nat_le, slice_range}
use Rattle.std.proofs.lemmas.Bool.Decides.{nat_tests}
use Rattle.std.proofs.lemmas.List.{take_all, take_more, length-map}
use Rattle.hold_shapes.specs.declared.origins.Origin.{Origin}
use Rattle.hold_shapes.specs.declared.shape.Shape.{Shape}
use Rattle.hold_shapes.specs.declared.shape.Shape.TheVariants.{Tree as TreeOf}
use Rattle.hold_shapes.specs.declared.edit.ShapeEdit.{ShapeEdit}
use Rattle.hold_shapes.specs.declared.edit.ShapeEdit.TheVariants.{Shift, Hang}
use Rattle.hold_shapes.specs.Causes.{Place, Deep}
use Rattle.hold_shapes.specs.Gather.{content_at}
use Rattle.hold_shapes.specs.Trees.{is_valid, node, child, child_at, children, end_of}
use Rattle.hold_shapes.specs.Plans.{plan, at_place, old_places, insert_part, remove_part, move_part, moved_depths, all_at_most, hang, hang_at, hang_below, hang_depths}
use Rattle.law_shapes.specs.Children.{child_path}
use Rattle.edit_inverse.specs.Paths.{parent_path, last_number}
use Rattle.hold_shapes.proofs.ValidDepths.{GoesOn, Low, Whole, whole}
use Rattle.hold_shapes.proofs.ChildPlaces.{length-remove_part}
use Rattle.law_shapes.proofs.Content.{content-move_part}
use Rattle.law_shapes.proofs.SamePrefix.{node-in, node-child}
use Rattle.law_shapes.proofs.OtherChildren.{length-between}
use Rattle.edit_inverse.proofs.Blocks.{slice-inserted, remove-inserted, end-inserted, get-inserted, length-inserted}
use Rattle.edit_inverse.proofs.Moves.{Makes, below_node, put-last, child-out, shift-home, left-still}
use Rattle.edit_inverse.proofs.Returns.{at-ok, else-ok, ok-shape, ok-origins}
use Rattle.texts.proofs.Tests.{not_zero}
use Rattle.law_shapes.proofs.Lawful.{past}
use Rattle.texts.proofs.Conjunction.{both, first as head-true, second as tail-true}
use Rattle.law_shapes.proofs.Parents.{lower}
use Rattle.law_shapes.proofs.ChildLaws.{still-named}

-- ---- depths that are counted from another node and back

moved-back : (f g : ℕ) (xs : List ℕ) → Low (g + 1) xs → moved_depths (f + 1) g (moved_depths (g + 1) f xs) ≡ xs
moved-back f g [] l = refl
moved-back f g (x ∷ xs) l =
    let k : g + 1 ≤ x = l.0 in
    let e : x - (g + 1) + (f + 1) - (f + 1) + (g + 1) ≡ x = omega arith in
    rw e (ap (λ (ys : List ℕ). x ∷ ys) (moved-back f g xs l.1))

low-moved : (a f : ℕ) (xs : List ℕ) → Low (a + 1) xs → Low (f + 2) (moved_depths a f xs)
low-moved a f [] l = tt
low-moved a f (x ∷ xs) l = let k : a + 1 ≤ x = l.0 in (omega arith, low-moved a f xs l.1)

goes-most : (b : ℕ) (ds : List ℕ) → GoesOn b ds → all_at_most 15 ds ≡ true
goes-most b [] g = refl
goes-most b (d ∷ ds) g = let k : d ≤ 15 = g.2 in both (nat_le d 15) (all_at_most 15 ds) (grind (arith, nat_tests)) (goes-most d ds g.3)

whole-most : (ds : List ℕ) → Whole ds → all_at_most 15 ds ≡ true
whole-most [] w = absurd w
whole-most (d ∷ ds) w = let z : d ≡ 0 = w.0 in both (nat_le d 15) (all_at_most 15 ds) (grind (arith, nat_tests)) (goes-most 0 ds w.1)

most-take : (n m : ℕ) (ds : List ℕ) → all_at_most m ds ≡ true → all_at_most m (take n ds) ≡ true
most-take zero m ds h = refl
most-take (suc n) m [] h = refl
most-take (suc n) m (d ∷ ds) h = both (nat_le d m) (all_at_most m (take n ds)) (head-true (nat_le d m) (all_at_most m ds) h) (most-take n m ds (tail-true (nat_le d m) (all_at_most m ds) h))

most-drop : (n m : ℕ) (ds : List ℕ) → all_at_most m ds ≡ true → all_at_most m (drop n ds) ≡ true
most-drop zero m ds h = h
most-drop (suc n) m [] h = refl
most-drop (suc n) m (d ∷ ds) h = most-drop n m ds (tail-true (nat_le d m) (all_at_most m ds) h)

-- ---- the parent of a node

split-last : (q : List ℕ) → 0 < length q → q ≡ child_path (parent_path q) (last_number q)
split-last q h =
    let n = length q - 1 in
    let more : n + 1 ≡ length q = omega arith in
    let k = take_more q n 0 (omega arith) in
    let P : ℕ → Type 0 = λ m. take m q ≡ take n q ++ get_or q n 0 ∷ [] in
    sym (take_all (length q) q (omega arith)) ∙ subst P more k

at-child : (ds : List ℕ) (i a : ℕ) (o : Option ℕ) → child_at ds i o ≡ Some a → (p : ℕ) × (o ≡ Some p) × (child ds p i ≡ Some a)
at-child ds i a None e = cc
at-child ds i a (Some p) e = (p, refl, e)

pub not-root : (ds q : List ℕ) (a : ℕ) → node ds q ≡ Some a → 0 < a → 0 < length q
not-root ds [] a is up = let z : 0 ≡ a = cc in absurd (omega arith)
not-root ds (i ∷ q) a is up = omega arith

pub parent-of : (ds q : List ℕ) (a : ℕ) → node ds q ≡ Some a → 0 < a → (p : ℕ) × (node ds (parent_path q) ≡ Some p) × (child ds p (last_number q) ≡ Some a)
parent-of ds q a is up =
    let P : List ℕ → Type 0 = λ path. node ds path ≡ Some a in
    let named = subst P (split-last q (not-root ds q a is up)) is in
    at-child ds (last_number q) a (node ds (parent_path q)) (sym (node-child ds (Some 0) (parent_path q) (last_number q)) ∙ named)

-- ---- what a hang makes

hang-deep : (b : Bool) (ds rest part : List ℕ) (a e r : ℕ) (s : Shape) (from : List Origin) → hang_depths ds a e rest r (if b then Ok part else Err Deep) ≡ Ok (s, from)
    → (b ≡ true) × (TreeOf (insert_part (end_of rest r) part rest) ≡ s) × (move_part a e (end_of rest r) (old_places (length ds)) ≡ from)
hang-deep true ds rest part a e r s from k =
    let u = TreeOf (insert_part (end_of rest r) part rest) in
    let f = move_part a e (end_of rest r) (old_places (length ds)) in
    (refl, ok-shape u s f from (Ok (u, f)) refl k, ok-origins u s f from (Ok (u, f)) refl k)
hang-deep false ds rest part a e r s from k = cc

abbrev pub moved_part : List ℕ → ℕ → ℕ → List ℕ
moved_part ds a r = moved_depths (get_or ds a 0) (get_or (remove_part a (end_of ds a) ds) r 0) (slice_range ds a (end_of ds a))

pub record Hung (ds p q : List ℕ) (s : Shape) (from : List Origin) (a r : ℕ) : Type 0 where
  pub at : node ds p ≡ Some a
  pub up : 0 < a
  pub below : node (remove_part a (end_of ds a) ds) q ≡ Some r
  pub most : all_at_most 15 (moved_part ds a r) ≡ true
  pub made : TreeOf (insert_part (end_of (remove_part a (end_of ds a) ds) r) (moved_part ds a r) (remove_part a (end_of ds a) ds)) ≡ s
  pub moved : move_part a (end_of ds a) (end_of (remove_part a (end_of ds a) ds) r) (old_places (length ds)) ≡ from

pub hung : (ds p q : List ℕ) (s : Shape) (from : List Origin) → plan (TreeOf ds) (Hang p q) ≡ Ok (s, from) → (a r : ℕ) × Hung ds p q s from a r
hung ds p q s from e =
    let x = at-ok (node ds p) (hang ds q) (s, from) e in
    let a = x.0 in
    let end = end_of ds a in
    let rest = remove_part a end ds in
    let y = else-ok (nat_eq a 0) (hang_at ds a end rest q) Place (s, from) x.2 in
    let w = at-ok (node rest q) (hang_below ds a end rest) (s, from) y.1 in
    let r = w.0 in
    let d = hang-deep (all_at_most 15 (moved_part ds a r)) ds rest (moved_part ds a r) a end r s from w.2 in
    (a, r, record { at = x.1; up = not_zero a y.0; below = w.1; most = d.0; made = d.1; moved = d.2 })

-- ---- the hang back, and the shift home

hang-plan : (ds rest p q part : List ℕ) (a e r : ℕ) → node ds p ≡ Some a → nat_eq a 0 ≡ false → end_of ds a ≡ e → remove_part a e ds ≡ rest → node rest q ≡ Some r
    → moved_depths (get_or ds a 0) (get_or rest r 0) (slice_range ds a e) ≡ part → all_at_most 15 part ≡ true
    → plan (TreeOf ds) (Hang p q) ≡ Ok (TreeOf (insert_part (end_of rest r) part rest), move_part a e (end_of rest r) (old_places (length ds)))
hang-plan ds rest p q part a e r is up ends left there moved most =
    ap (λ (o : Option ℕ). at_place o (hang ds q)) is
    ∙ (ap (λ (b : Bool). if b then Err Place else hang_at ds a (end_of ds a) (remove_part a (end_of ds a) ds) q) up
    ∙ (ap (λ (n : ℕ). hang_at ds a n (remove_part a n ds) q) ends
    ∙ (ap (λ (l : List ℕ). hang_at ds a e l q) left
    ∙ (ap (λ (o : Option ℕ). at_place o (hang_below ds a e rest)) there
    ∙ (ap (λ (l : List ℕ). hang_depths ds a e rest r (if all_at_most 15 l then Ok l else Err Deep)) moved
    ∙ ap (λ (b : Bool). hang_depths ds a e rest r (if b then Ok part else Err Deep)) most)))))

-- the two edits that take a hang back, with the tree between them
abbrev pub TakesBack : {A : Type 0} → Shape → A → List A → ShapeEdit → ShapeEdit → Shape → List A → Type 0
TakesBack s fresh ys e1 e2 t xs = (u : Shape) × (zs : List _) × Makes s e1 fresh ys u zs × Makes u e2 fresh zs t xs

hang-home : {A : Type 0} (ds p q : List ℕ) (a r pp : ℕ) (fresh : A) (xs : List A) → is_valid ds ≡ true → 0 < length ds → length xs ≡ length ds → 0 < a
    → node (remove_part a (end_of ds a) ds) q ≡ Some r → node ds (parent_path p) ≡ Some pp → child ds pp (last_number p) ≡ Some a
    → TakesBack (TreeOf (insert_part (end_of (remove_part a (end_of ds a) ds) r) (moved_part ds a r) (remove_part a (end_of ds a) ds))) fresh
    (move_part a (end_of ds a) (end_of (remove_part a (end_of ds a) ds) r) xs)
    (Hang (child_path q (children (remove_part a (end_of ds a) ds) r)) (parent_path p))
    (Shift (parent_path p) (children (remove_part a (end_of ds a) ds) pp) (last_number p)) (TreeOf ds) xs
hang-home ds p q a r pp fresh xs v z size up below parent here =
    let inside : pp < length ds = node-in ds (parent_path p) pp z parent in
    let o = child-out ds pp (last_number p) a inside here in
    let end = end_of ds a in
    let rest = remove_part a end ds in
    let full : 0 < length rest = let x = o.there in omega arith in
    let bs = below_node ds a in
    let f = get_or rest r 0 in
    let g = get_or rest pp 0 in
    let part = slice_range ds a end in
    let ms = moved_depths (g + 1) f bs in
    let t = end_of rest r in
    let k = children rest r in
    let within : r < length rest = node-in rest q r full below in
    let two : g + 1 + 1 ≡ g + 2 = omega arith in
    let L : ℕ → Type 0 = λ n. Low n bs in
    let low = low-moved (g + 1) f bs (subst L (sym two) o.low) in
    let top : g + 1 - (g + 1) + (f + 1) ≡ f + 1 = omega arith in
    let start : moved_part ds a r ≡ (f + 1) ∷ ms =
    ap (λ (n : ℕ). moved_depths n f part) o.depth ∙ (ap (λ (l : List ℕ). moved_depths (g + 1) f l) o.part ∙ ap (λ (n : ℕ). n ∷ ms) top) in
    let moved = (f + 1) ∷ ms in
    let new = insert_part t moved rest in
    let put = put-last rest ms r within low in
    let room : t ≤ length rest = put.3 in
    let at : node new q ≡ Some r = still-named rest moved q r t full below put.2 room in
    let named : node new (child_path q k) ≡ Some t = node-child new (Some 0) q k ∙ (ap (λ (n : Option ℕ). child_at new k n) at ∙ put.0) in
    let F = t + suc (length ms) in
    let three : f + 2 ≡ f + 1 + 1 = omega arith in
    let M : ℕ → Type 0 = λ n. Low n ms in
    let ends : end_of new t ≡ F = end-inserted rest ms t (f + 1) room (subst M three low) put.4 in
    let e : F ≡ t + length moved = refl in
    let left : remove_part t F new ≡ rest = remove-inserted t moved rest F room e in
    let slice : slice_range new t F ≡ moved = slice-inserted t moved rest F room e in
    let up-there : nat_eq t 0 ≡ false = let x = put.2 in grind (arith, nat_tests) in
    let back-named : node rest (parent_path p) ≡ Some pp = left-still ds (parent_path p) pp a end z parent o.up (let x = o.within in omega arith) in
    let lows : Low (g + 1) ((g + 1) ∷ bs) = (omega arith, lower (g + 1) (g + 2) bs (omega arith) o.low) in
    let again : moved_depths (f + 1) g moved ≡ part =
    ap (λ (n : ℕ). moved_depths (f + 1) g (n ∷ ms)) (sym top) ∙ (moved-back f g ((g + 1) ∷ bs) lows ∙ sym o.part) in
    let comes : moved_depths (get_or new t 0) g (slice_range new t F) ≡ part =
    ap (λ (n : ℕ). moved_depths n g (slice_range new t F)) (get-inserted rest ms t (f + 1) room) ∙ (ap (λ (l : List ℕ). moved_depths (f + 1) g l) slice ∙ again) in
    let most : all_at_most 15 part ≡ true = most-take (end - a) 15 (drop a ds) (most-drop a 15 ds (whole-most ds (whole ds v))) in
    let E = end_of rest pp in
    let first = hang-plan new rest (child_path q k) (parent_path p) part t F pp named up-there ends left back-named comes most in
    let xs-part = slice_range xs a end in
    let xs-rest = remove_part a end xs in
    let ys = insert_part t xs-part xs-rest in
    let sizes = o.size in
    let lasts = o.ends in
    let xpart = length-between xs a end (past ds a) (omega arith) in
    let xn = length-remove_part _ xs a end (past ds a) (omega arith) in
    let dn = length-remove_part ℕ ds a end (past ds a) lasts in
    let mn : length ms ≡ length bs = length-map bs (λ d. d - (g + 1) + (f + 1)) in
    let xroom : t ≤ length xs-rest = omega arith in
    let xe : F ≡ t + length xs-part = omega arith in
    let same : length new ≡ length ys = length-inserted t moved rest xs-part xs-rest (omega arith) (omega arith) in
    let gathers : map (content_at ys fresh) (move_part t F E (old_places (length new))) ≡ insert_part E xs-part xs-rest =
    sym (content-move_part _ fresh ys (length new) t F E same)
    ∙ (ap (λ (l : List _). insert_part E l (remove_part t F ys)) (slice-inserted t xs-part xs-rest F xroom xe)
    ∙ ap (λ (l : List _). insert_part E xs-part l) (remove-inserted t xs-part xs-rest F xroom xe)) in
    let second = shift-home ds (parent_path p) pp (last_number p) (children rest pp) a E fresh xs z parent here size (put-last rest bs pp o.there o.low) in
    let P : List ℕ → Type 0 = λ l. TakesBack (TreeOf (insert_part t l rest)) fresh ys (Hang (child_path q k) (parent_path p)) (Shift (parent_path p) (children rest pp) (last_number p)) (TreeOf ds) xs in
    subst P (sym start)
    (TreeOf (insert_part E part rest), insert_part E xs-part xs-rest, (move_part t F E (old_places (length new)), first, gathers), second)

-- what a hang makes is taken back
pub hang-back : {A : Type 0} (ds p q : List ℕ) (s : Shape) (from : List Origin) (fresh : A) (xs : List A) → is_valid ds ≡ true → 0 < length ds → length xs ≡ length ds
    → plan (TreeOf ds) (Hang p q) ≡ Ok (s, from)
    → (a r pp : ℕ) × (node ds p ≡ Some a) × (node (remove_part a (end_of ds a) ds) q ≡ Some r) × (node (remove_part a (end_of ds a) ds) (parent_path p) ≡ Some pp)
    × TakesBack s fresh (map (content_at xs fresh) from) (Hang (child_path q (children (remove_part a (end_of ds a) ds) r)) (parent_path p))
    (Shift (parent_path p) (children (remove_part a (end_of ds a) ds) pp) (last_number p)) (TreeOf ds) xs
hang-back ds p q s from fresh xs v z size e =
    let h = hung ds p q s from e in
    let a = h.0 in
    let r = h.1 in
    let w = h.2 in
    let end = end_of ds a in
    let rest = remove_part a end ds in
    let u = parent-of ds p a w.at w.up in
    let pp = u.0 in
    let t = end_of rest r in
    let e1 = Hang (child_path q (children rest r)) (parent_path p) in
    let e2 = Shift (parent_path p) (children rest pp) (last_number p) in
    let got = hang-home ds p q a r pp fresh xs v z size w.up w.below u.1 u.2 in
    let inside : pp < length ds = node-in ds (parent_path p) pp z u.1 in
    let o = child-out ds pp (last_number p) a inside u.2 in
    let back-named : node rest (parent_path p) ≡ Some pp = left-still ds (parent_path p) pp a end z u.1 o.up (let x = o.within in omega arith) in
    let P : Shape → List _ → Type 0 = λ sh ys. TakesBack sh fresh ys e1 e2 (TreeOf ds) xs in (
      a,
      r,
      pp,
      w.at,
      w.below,
      back-named,
      subst (λ (l : List Origin). P s (map (content_at xs fresh) l)) w.moved
          (subst (λ (ys : List _). P s ys) (content-move_part _ fresh xs (length ds) a end t (sym size))
          (subst (λ (sh : Shape). P sh (move_part a end t xs)) w.made got)),
    )
