-- A word and its normal form act alike.
use Rattle.std.proofs.Common.{◌≡◌, ℕ, zero, suc, true, cond, Option, None, Some, List, bytes_eq, Result, Err, refl, sym, ap, ◌∙◌}
use Rattle.texts.proofs.Conjunction.{second}
use Rattle.hold_shapes.specs.declared.shape.Shape.{Shape}
use Rattle.hold_shapes.specs.declared.edit.Place.{Place as PlaceOf}
use Rattle.hold_shapes.specs.declared.edit.Place.TheVariants.{Index, Key, Node}
use Rattle.hold_shapes.specs.Shapes.{place_of}
use Rattle.doc_values.specs.Documents.{DocTree, unit, rec, alt, hold, DocTrees}
use Rattle.doc_values.specs.Types.{TyTree, ty_rec, ty_alt, ty_list, ty_keyed, ty_ordered, is_well_formed}
use Rattle.doc_values.specs.Typing.{has, lookup_field, lookup_type}
use Rattle.doc_values.specs.Initial.{initial}
use Rattle.doc_values.proofs.InitialTypes.{has_initial}
use Rattle.doc_values.proofs.FieldPlaces.{lookup_field-well_formed, lookup_type-well_formed}
use Rattle.edit_module.specs.declared.fault.Cause.{Cause}
use Rattle.edit_module.specs.declared.fault.Cause.TheVariants.{Place, Tag}
use Rattle.edit_module.specs.Words.{PrimitiveTree, at, stay, switch, modify, WordTree, no_primitives, more_primitives}
use Rattle.edit_module.specs.Action.{act, act_primitive, inner, map_ok, if_present, act_at_place, put_result_at, put_at, doc_at}
use Rattle.edit_module.specs.Containers.{IsHeld}
use Rattle.edit_module.specs.Depths.{word_depth}
use Rattle.edit_module.specs.Normal.{merge, placed, merged_onto, merged, inside, inside_each, normal_to, normal}
use Rattle.edit_module.proofs.ActionKeepsTypes.{has_fields-at, content-has_type, list-held, keyed-held, tree-held, item-typed, has_primitive}
use Rattle.edit_module.proofs.Merging.{value, and_then, and_then-same, and_then-assoc, value-more, merge-acts}

-- two words with the same value on the documents of each type
abbrev ActAlike : WordTree → WordTree → Type 0
ActAlike u w = (t : TyTree) (x : DocTree) → is_well_formed t ≡ true → has t x ≡ true → value t u x ≡ value t w x

-- ---- merged neighbours

placed-acts : (p q : PrimitiveTree) (w : WordTree) (go_on : PrimitiveTree → WordTree) (o : Option PrimitiveTree) → merge p q ≡ o
    → ((r : PrimitiveTree) → ActAlike (go_on r) (more_primitives r w))
    → ActAlike (placed o p q go_on) (more_primitives p (more_primitives q w))
placed-acts p q w go_on (Some r) e h t x wf k =
    h r t x wf k
    ∙ value-more t r w x
    ∙ ap (λ z. and_then z (λ y. value t w y)) (merge-acts p q r e t x k)
    ∙ and_then-assoc (act_primitive t p x) (λ y. act_primitive t q y) (λ y. value t w y)
    ∙ and_then-same (act_primitive t p x) (λ y. and_then (act_primitive t q y) (λ z. value t w z)) (λ y. value t (more_primitives q w) y) (λ y i. sym (value-more t q w y))
    ∙ sym (value-more t p (more_primitives q w) x)
placed-acts p q w go_on None e h t x wf k =
    value-more t p (go_on q) x
    ∙ and_then-same (act_primitive t p x) (λ y. value t (go_on q) y) (λ y. value t (more_primitives q w) y) (λ y i. h q t y wf (has_primitive t p x y wf k i))
    ∙ sym (value-more t p (more_primitives q w) x)

merged_onto-acts : (w : WordTree) (p : PrimitiveTree) → ActAlike (merged_onto p w) (more_primitives p w)
merged_onto-acts no_primitives p t x wf k = refl
merged_onto-acts (more_primitives q w) p t x wf k =
    placed-acts p q w (λ r. merged_onto r w) (merge p q) refl (λ r. merged_onto-acts w r) t x wf k

merged-acts : (w : WordTree) → ActAlike (merged w) w
merged-acts no_primitives t x wf k = refl
merged-acts (more_primitives p w) t x wf k = merged_onto-acts w p t x wf k

-- ---- inner words that act alike

present-same : {A : Type 0} (o : Option A) (c : Cause) (f g : A → Result DocTree Cause) → ((a : A) → o ≡ Some a → f a ≡ g a) → if_present o c f ≡ if_present o c g
present-same None c f g h = refl
present-same (Some a) c f g h = h a refl

item-inside : (t : TyTree) (s : Shape) (ds : DocTrees) (p : PlaceOf) (u w : WordTree) → ActAlike u w → is_well_formed t ≡ true → IsHeld t s ds
    → act_at_place (λ x. act t u x) s ds p ≡ act_at_place (λ x. act t w x) s ds p
item-inside t s ds p u w h wf k =
    present-same (place_of s p) Place (λ i. map_ok (hold s) (put_result_at ds i (act t u (doc_at ds i)))) (λ i. map_ok (hold s) (put_result_at ds i (act t w (doc_at ds i))))
    (λ i e. ap (λ r. map_ok (hold s) (map_ok (put_at ds i) r)) (h t (doc_at ds i) wf (item-typed t s ds p i k e).1))

at-inside : (f : List ℕ) (u w : WordTree) → ActAlike u w → (t : TyTree) (x : DocTree) → is_well_formed t ≡ true → has t x ≡ true → act_primitive t (at f u) x ≡ act_primitive t (at f w) x
at-inside f u w h (ty_rec fs) (rec ds) wf k =
    present-same (lookup_field fs f) Place (λ s. map_ok rec (put_result_at ds s.0 (act s.1 u (doc_at ds s.0)))) (λ s. map_ok rec (put_result_at ds s.0 (act s.1 w (doc_at ds s.0))))
    (λ s e. ap (λ r. map_ok rec (map_ok (put_at ds s.0) r)) (h s.1 (doc_at ds s.0) (lookup_field-well_formed fs f s (second _ _ wf) e) (has_fields-at fs ds f s unit k e).1))
at-inside f u w h _ _ wf k = refl

stay-inside : (a : List ℕ) (u w : WordTree) → ActAlike u w → (t : TyTree) (x : DocTree) → is_well_formed t ≡ true → has t x ≡ true → act_primitive t (stay a u) x ≡ act_primitive t (stay a w) x
stay-inside a u w h (ty_alt fs) (alt b x) wf k =
    ap (λ r. cond (bytes_eq a b) r (Err Tag))
    (present-same (lookup_type fs b) Tag (λ ty. map_ok (alt b) (inner (act ty u x))) (λ ty. map_ok (alt b) (inner (act ty w x)))
    (λ ty e. ap (map_ok (alt b)) (h ty x (lookup_type-well_formed fs b ty (second _ _ wf) e) (content-has_type fs b x ty k e))))
stay-inside a u w h _ _ wf k = refl

switch-inside : (a b : List ℕ) (u w : WordTree) → ActAlike u w → (t : TyTree) (x : DocTree) → is_well_formed t ≡ true → act_primitive t (switch a b u) x ≡ act_primitive t (switch a b w) x
switch-inside a b u w h (ty_alt fs) (alt c x) wf =
    ap (λ r. cond (bytes_eq a c) r (Err Tag))
    (present-same (lookup_type fs b) Tag (λ ty. map_ok (alt b) (inner (act ty u (initial ty)))) (λ ty. map_ok (alt b) (inner (act ty w (initial ty))))
    (λ ty e. let sound = lookup_type-well_formed fs b ty (second _ _ wf) e in ap (map_ok (alt b)) (h ty (initial ty) sound (has_initial ty sound))))
switch-inside a b u w h _ _ wf = refl

modify-inside : (p : PlaceOf) (u w : WordTree) → ActAlike u w → (t : TyTree) (x : DocTree) → is_well_formed t ≡ true → has t x ≡ true → act_primitive t (modify p u) x ≡ act_primitive t (modify p w) x
modify-inside (Index p) u w h (ty_list t) (hold s ds) wf k = item-inside t s ds (Index p) u w h wf (list-held t s ds k)
modify-inside (Key p) u w h (ty_keyed t) (hold s ds) wf k = item-inside t s ds (Key p) u w h wf (keyed-held t s ds k)
modify-inside (Node p) u w h (ty_ordered t) (hold s ds) wf k = item-inside t s ds (Node p) u w h wf (tree-held t s ds k)
modify-inside _ u w h _ _ wf k = refl

inside-acts : (f : WordTree → WordTree) → ((u : WordTree) → ActAlike (f u) u) → (p : PrimitiveTree) (t : TyTree) (x : DocTree) → is_well_formed t ≡ true → has t x ≡ true
    → act_primitive t (inside f p) x ≡ act_primitive t p x
inside-acts f h (at n w) t x wf k = at-inside n (f w) w (h w) t x wf k
inside-acts f h (stay a w) t x wf k = stay-inside a (f w) w (h w) t x wf k
inside-acts f h (switch a b w) t x wf k = switch-inside a b (f w) w (h w) t x wf
inside-acts f h (modify p w) t x wf k = modify-inside p (f w) w (h w) t x wf k
inside-acts f h _ t x wf k = refl

inside_each-acts : (f : WordTree → WordTree) → ((u : WordTree) → ActAlike (f u) u) → (w : WordTree) → ActAlike (inside_each f w) w
inside_each-acts f h no_primitives t x wf k = refl
inside_each-acts f h (more_primitives p w) t x wf k =
    value-more t (inside f p) (inside_each f w) x
    ∙ ap (λ r. and_then r (λ y. value t (inside_each f w) y)) (inside-acts f h p t x wf k)
    ∙ and_then-same (act_primitive t p x) (λ y. value t (inside_each f w) y) (λ y. value t w y) (λ y e. inside_each-acts f h w t y wf (has_primitive t p x y wf k e))
    ∙ sym (value-more t p w x)

-- ---- the normal form

normal_to-acts : (n : ℕ) (w : WordTree) → ActAlike (normal_to n w) w
normal_to-acts zero w t x wf k = refl
normal_to-acts (suc n) w t x wf k =
    inside_each-acts (normal_to n) (λ u. normal_to-acts n u) (merged w) t x wf k ∙ merged-acts w t x wf k

pub equal-act : (t : TyTree) (u w : WordTree) (x : DocTree) → is_well_formed t ≡ true → has t x ≡ true → normal u ≡ normal w → inner (act t u x) ≡ inner (act t w x)
equal-act t u w x wf k e =
    sym (normal_to-acts (word_depth u) u t x wf k) ∙ ap (λ z. value t z x) e ∙ normal_to-acts (word_depth w) w t x wf k

pub ruleset equal_rules = (equal-act)
