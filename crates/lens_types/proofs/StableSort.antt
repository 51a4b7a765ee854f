-- A stable sort by names gives the fields that are inserted one by one.
use Rattle.std.proofs.Common.{◌≡◌, ℕ, suc, ◌≤◌, ◌<◌, Bool, true, false, true≢false, not, cond, List, [], ◌∷◌, length, map, get_or, refl, ap, sym, ◌∙◌, subst, arith}
use Rattle.std.specs.Prelude.{if◌then◌else◌}
use Rattle.std.specs.Cmp.{IsStrictWeakOrder}
use Rattle.std.specs.List.{filter}
use Rattle.std.specs.List.Sorted.{IsSortedBy, IsStableBy, ties}
use Rattle.std.proofs.lemmas.Cmp.{nat_list_cmp_total}
use Rattle.std.proofs.lemmas.List.Sorted.{ranks_by, sorted_far}
use Rattle.texts.specs.Keys.{is_before}
use Rattle.texts.proofs.Conjunction.{both, first, second}
use Rattle.doc_values.specs.Types.{more_fields, type_fields_of, field_tree, ty_tree}
use Rattle.doc_values.specs.declared.ty.Ty.{Ty}
use Rattle.lens_forms.specs.Forms.{insert_field, sorted}
use Rattle.std.proofs.lemmas.Bool.{not-true}

false_not : (b : Bool) → b ≡ false → not b ≡ true
false_not true h = cc
false_not false h = refl

module _ {X : Type 0} (lt : X → X → Bool) (o : IsStrictWeakOrder lt) where
  -- ---- lists in order

  abbrev Above : X → List X → Type 0
  Above x [] = Unit {0}
  Above x (y ∷ ys) = (lt y x ≡ false) × Above x ys

  abbrev Up : List X → Type 0
  Up [] = Unit {0}
  Up (x ∷ xs) = Above x xs × Up xs

  above_far : (x : X) (xs : List X) → ((k : ℕ) → k < length xs → lt (get_or xs k x) x ≡ false) → Above x xs
  above_far x [] h = tt
  above_far x (y ∷ ys) h = (h 0 (omega arith), above_far x ys (λ k l. h (suc k) (omega arith)))

  up_far : (xs : List X) → ((i j : ℕ) (d : X) → i ≤ j → j < length xs → lt (get_or xs j d) (get_or xs i d) ≡ false) → Up xs
  up_far [] h = tt
  up_far (x ∷ xs) h =
      (above_far x xs (λ k l. h 0 (suc k) x (omega arith) (omega arith)), up_far xs (λ i j d m l. h (suc i) (suc j) d (omega arith) (omega arith)))

  above_chain : (x y : X) (ys : List X) → lt y x ≡ false → Above y ys → Above x ys
  above_chain x y [] h a = tt
  above_chain x y (z ∷ zs) h a = (o.chain z y x a.0 h, above_chain x y zs h a.1)

  -- ---- elements that tie

  irreflexive : (b : Bool) (x : X) → lt x x ≡ b → b ≡ false
  irreflexive true x e = sym e ∙ o.one_way x x e
  irreflexive false x e = refl

  ties_of : (x y : X) → lt x y ≡ false → lt y x ≡ false → ties lt x y ≡ true
  ties_of x y h k = both (not (lt x y)) (not (lt y x)) (false_not _ h) (false_not _ k)

  ties_itself : (x : X) → ties lt x x ≡ true
  ties_itself x = let h = irreflexive (lt x x) x refl in ties_of x x h h

  head_step : (b : Bool) (x y z : X) (zs rest : List X) → cond b (z ∷ zs) zs ≡ y ∷ rest → lt z x ≡ false → (zs ≡ y ∷ rest → lt y x ≡ false) → lt y x ≡ false
  head_step true x y z zs rest e h f = let same : z ≡ y = cc in subst (λ (w : X). lt w x ≡ false) same h
  head_step false x y z zs rest e h f = f e

  -- the first of the elements that pass is not less than what none is less than
  head_above : (p : X → Bool) (x y : X) (zs rest : List X) → filter p zs ≡ y ∷ rest → Above x zs → lt y x ≡ false
  head_above p x y [] rest e a = cc
  head_above p x y (z ∷ zs) rest e a = head_step (p z) x y z (filter p zs) rest e a.0 (λ f. head_above p x y zs rest f a.1)

  -- ---- two lists in order in which ties stand in one order are the same

  first_passes : (p : X → Bool) (x : X) (xs : List X) → p x ≡ true → filter p (x ∷ xs) ≡ x ∷ filter p xs
  first_passes p x xs h = ap (λ b. cond b (x ∷ filter p xs) (filter p xs)) h

  tail_same : (b : Bool) (x y : X) (us vs : List X) → x ≡ y → cond b (x ∷ us) us ≡ cond b (y ∷ vs) vs → us ≡ vs
  tail_same true x y us vs e h = cc
  tail_same false x y us vs e h = h

  same_list : (xs ys : List X) → Up xs → Up ys → ((z : X) → filter (ties lt z) xs ≡ filter (ties lt z) ys) → xs ≡ ys
  same_list [] [] u v e = refl
  same_list [] (y ∷ ys) u v e = let h = e y ∙ first_passes (ties lt y) y ys (ties_itself y) in cc
  same_list (x ∷ xs) [] u v e = let h = sym (e x) ∙ first_passes (ties lt x) x xs (ties_itself x) in cc
  same_list (x ∷ xs) (y ∷ ys) u v e =
      let yx : lt y x ≡ false = head_above (ties lt y) x y (x ∷ xs) (filter (ties lt y) ys) (e y ∙ first_passes (ties lt y) y ys (ties_itself y)) (irreflexive (lt x x) x refl, u.0) in
      let xy : lt x y ≡ false = head_above (ties lt x) y x (y ∷ ys) (filter (ties lt x) xs) (sym (e x) ∙ first_passes (ties lt x) x xs (ties_itself x)) (irreflexive (lt y y) y refl, v.0) in
      let lists : x ∷ filter (ties lt x) xs ≡ y ∷ filter (ties lt x) ys =
      sym (first_passes (ties lt x) x xs (ties_itself x)) ∙ e x ∙ first_passes (ties lt x) y ys (ties_of x y xy yx) in
      let heads : x ≡ y = cc in
      let tails : xs ≡ ys =
      same_list xs ys u.1 v.1
      (λ (z : X). tail_same (ties lt z x) x y (filter (ties lt z) xs) (filter (ties lt z) ys) heads
      (e z ∙ ap (λ w. cond (ties lt z w) (y ∷ filter (ties lt z) ys) (filter (ties lt z) ys)) (sym heads))) in
      cc

  -- ---- inserting one by one

  abbrev pub put : X → List X → List X
  put f [] = f ∷ []
  put f (g ∷ gs) = if lt g f then g ∷ put f gs else f ∷ g ∷ gs

  abbrev pub put_all : List X → List X
  put_all [] = []
  put_all (f ∷ fs) = put f (put_all fs)

  above-put : (g f : X) (gs : List X) → lt f g ≡ false → Above g gs → Above g (put f gs)
  above-put g f [] h a = (h, tt)
  above-put g f (k ∷ ks) h a =
      elim (lt k f) as (λ b. Above g (if b then k ∷ put f ks else f ∷ k ∷ ks)) [ true ↦ (a.0, above-put g f ks h a.1) | false ↦ (h, a) ]

  up-step : (b : Bool) (f g : X) (gs : List X) → lt g f ≡ b → Above g gs → Up gs → Up (put f gs) → Up (if b then g ∷ put f gs else f ∷ g ∷ gs)
  up-step true f g gs e a u p = (above-put g f gs (o.one_way g f e) a, p)
  up-step false f g gs e a u p = ((e, above_chain f g gs e a), (a, u))

  up-put : (f : X) (gs : List X) → Up gs → Up (put f gs)
  up-put f [] u = (tt, tt)
  up-put f (g ∷ gs) u = up-step (lt g f) f g gs refl u.0 u.1 (up-put f gs u.1)

  up-put_all : (fs : List X) → Up (put_all fs)
  up-put_all [] = tt
  up-put_all (f ∷ fs) = up-put f (put_all fs) (up-put_all fs)

  -- where g is less than f, not both of them tie with another
  apart : (x f g : X) → lt g f ≡ true → ties lt x f ≡ true → ties lt x g ≡ true → ⊥
  apart x f g h tf tg =
      let gx : lt g x ≡ false = not-true (lt g x) (second (not (lt x g)) (not (lt g x)) tg) in
      let xf : lt x f ≡ false = not-true (lt x f) (first (not (lt x f)) (not (lt f x)) tf) in
      true≢false (sym h ∙ o.chain g x f gx xf)

  swapped : (c b : Bool) (f g : X) (gs : List X) → (c ≡ true → b ≡ true → ⊥)
      → cond b (g ∷ cond c (f ∷ gs) gs) (cond c (f ∷ gs) gs) ≡ cond c (f ∷ cond b (g ∷ gs) gs) (cond b (g ∷ gs) gs)
  swapped true true f g gs n = absurd (n refl refl)
  swapped true false f g gs n = refl
  swapped false b f g gs n = refl

  stable-step : (b : Bool) (x f g : X) (gs : List X) → lt g f ≡ b
      → filter (ties lt x) (put f gs) ≡ cond (ties lt x f) (f ∷ filter (ties lt x) gs) (filter (ties lt x) gs)
      → filter (ties lt x) (if b then g ∷ put f gs else f ∷ g ∷ gs) ≡ filter (ties lt x) (f ∷ g ∷ gs)
  stable-step true x f g gs e h =
      ap (λ l. cond (ties lt x g) (g ∷ l) l) h ∙ swapped (ties lt x f) (ties lt x g) f g (filter (ties lt x) gs) (λ tf tg. apart x f g e tf tg)
  stable-step false x f g gs e h = refl

  stable-put : (x f : X) (gs : List X) → filter (ties lt x) (put f gs) ≡ filter (ties lt x) (f ∷ gs)
  stable-put x f [] = refl
  stable-put x f (g ∷ gs) = stable-step (lt g f) x f g gs refl (stable-put x f gs)

  stable-put_all : (x : X) (fs : List X) → filter (ties lt x) (put_all fs) ≡ filter (ties lt x) fs
  stable-put_all x [] = refl
  stable-put_all x (f ∷ fs) = stable-put x f (put_all fs) ∙ ap (λ l. cond (ties lt x f) (f ∷ l) l) (stable-put_all x fs)

  pub sorted_is : (xs ys : List X) → IsSortedBy lt ys → IsStableBy lt xs ys → ys ≡ put_all xs
  sorted_is xs ys up stable =
      same_list ys (put_all xs) (up_far ys (sorted_far lt o ys up)) (up-put_all xs) (λ (z : X). stable z ∙ sym (stable-put_all z xs))

-- ---- fields by their names

abbrev pub name_before : List ℕ × Ty → List ℕ × Ty → Bool
name_before x y = is_before x.0 y.0

pub by_name : IsStrictWeakOrder name_before
by_name = ranks_by nat_list_cmp_total (λ (x : List ℕ × Ty). x.0)

put-insert_field : (f : List ℕ × Ty) (gs : List (List ℕ × Ty))
    → type_fields_of (map field_tree (put name_before by_name f gs)) ≡ insert_field f.0 (ty_tree f.1) (type_fields_of (map field_tree gs))
put-insert_field f [] = refl
put-insert_field f (g ∷ gs) =
    elim (is_before g.0 f.0) as (λ b. type_fields_of (map field_tree (if b then g ∷ put name_before by_name f gs else f ∷ g ∷ gs))
    ≡ (if b then more_fields g.0 (ty_tree g.1) (insert_field f.0 (ty_tree f.1) (type_fields_of (map field_tree gs))) else more_fields f.0 (ty_tree f.1) (more_fields g.0 (ty_tree g.1) (type_fields_of (map field_tree gs)))))
    [ true ↦ ap (more_fields g.0 (ty_tree g.1)) (put-insert_field f gs) | false ↦ refl ]

put_all-sorted : (fs : List (List ℕ × Ty)) → type_fields_of (map field_tree (put_all name_before by_name fs)) ≡ sorted (type_fields_of (map field_tree fs))
put_all-sorted [] = refl
put_all-sorted (f ∷ fs) = put-insert_field f (put_all name_before by_name fs) ∙ ap (insert_field f.0 (ty_tree f.1)) (put_all-sorted fs)

-- fields that are sorted by a stable sort
pub sorted_fields : (fs gs : List (List ℕ × Ty)) → IsSortedBy name_before gs → IsStableBy name_before fs gs
    → type_fields_of (map field_tree gs) ≡ sorted (type_fields_of (map field_tree fs))
sorted_fields fs gs up stable = ap (λ l. type_fields_of (map field_tree l)) (sorted_is name_before by_name fs gs up stable) ∙ put_all-sorted fs
