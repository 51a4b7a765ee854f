-- A word that applies to a document of a type is nested no deeper than the type is high.
use Rattle.std.proofs.Common.{◌≡◌, ℕ, ◌+◌, ◌≤◌, Bool, true, false, cond, bytes_eq, Some, Result, Ok, Err, refl, ap, arith}
use Rattle.hold_shapes.specs.Shapes.{place_of}
use Rattle.hold_shapes.specs.declared.shape.Shape.{Shape}
use Rattle.hold_shapes.specs.declared.edit.Place.{Place as PlaceOf}
use Rattle.hold_shapes.specs.declared.edit.Place.TheVariants.{Index, Key, Node}
use Rattle.doc_values.specs.Documents.{DocTree, rec, alt, hold, DocTrees}
use Rattle.doc_values.specs.Types.{TyTree, ty_rec, ty_alt, ty_list, ty_keyed, ty_ordered, FieldTrees, height, highest}
use Rattle.doc_values.specs.Typing.{lookup_field, lookup_type}
use Rattle.doc_values.specs.Initial.{initial}
use Rattle.doc_values.proofs.FieldPlaces.{lookup_field-height, lookup_type_place}
use Rattle.edit_module.specs.Words.{PrimitiveTree, set, add, splice, at, stay, switch, modify, shape, WordTree, no_primitives, more_primitives}
use Rattle.edit_module.specs.Depths.{primitive_depth, word_depth}
use Rattle.edit_module.specs.Action.{Why, act, act_primitive, inner, map_ok, act_at_place, put_result_at, put_at, doc_at}
use Rattle.edit_module.specs.declared.fault.Cause.{Cause}
use Rattle.edit_module.specs.declared.fault.Cause.TheVariants.{Place, Tag}
use Rattle.edit_module.proofs.ActionKeepsTypes.{inner_ok, after_ok, present_ok}
use Rattle.program_writing.proofs.WritableTypes.{has_level}

-- ---- what a value says of the parts of an action

-- a result is a value
abbrev IsMade : {A E : Type 0} → Result A E → Type 0
IsMade {A = A} r = (x : A) × (r ≡ Ok x)

map_made : {A B : Type 0} (f : A → B) (r : Result A Cause) (u : B) → map_ok f r ≡ Ok u → IsMade r
map_made f (Ok x) u h = (x, refl)
map_made f (Err cause) u h = cc

if_made : (b : Bool) (r : Result DocTree Cause) (cause : Cause) (u : DocTree) → cond b r (Err cause) ≡ Ok u → r ≡ Ok u
if_made true r cause u h = h
if_made false r cause u h = cc

-- the inner word of a field, of a tag and of a place made a value
put_made : (ds : DocTrees) (i : ℕ) (r : Result DocTree Why) (f : DocTrees → DocTree) (u : DocTree) → map_ok f (put_result_at ds i r) ≡ Ok u → IsMade r
put_made ds i r f u h =
    let p = map_made f (put_result_at ds i r) u h in
    let q = map_made (put_at ds i) (inner r) p.0 p.1 in
    (q.0, inner_ok r q.0 q.1)

tag_made : (n : _) (r : Result DocTree Why) (u : DocTree) → map_ok (alt n) (inner r) ≡ Ok u → IsMade r
tag_made n r u h = let p = map_made (alt n) (inner r) u h in (p.0, inner_ok r p.0 p.1)

place_made : (action : DocTree → Result DocTree Why) (s : Shape) (ds : DocTrees) (p : PlaceOf) (u : DocTree) → act_at_place action s ds p ≡ Ok u → (v : DocTree) × IsMade (action v)
place_made action s ds p u h =
    let i = present_ok (place_of s p) Place (λ i. map_ok (hold s) (put_result_at ds i (action (doc_at ds i)))) u h in
    (doc_at ds i.0, put_made ds i.0 (action (doc_at ds i.0)) (hold s) u i.2)

tag_height : (fs : FieldTrees) (n : _) (t : TyTree) → lookup_type fs n ≡ Some t → height t ≤ highest fs
tag_height fs n t h =
    let r = lookup_type_place fs n t h in
    let e = ap height r.2 in
    omega (arith, e, lookup_field-height fs n r.0 r.1)

-- ---- words

mutual
  pub word_low : (w : WordTree) (t : TyTree) (v u : DocTree) → act t w v ≡ Ok u → word_depth w ≤ height t
  word_low no_primitives t v u h = has_level t
  word_low (more_primitives p w) t v u h =
      let a = after_ok (act_primitive t p v) (λ x. act t w x) u h in
      omega (arith, primitive_low p t v a.0 a.1, word_low w t a.0 u a.2)

  primitive_low : (p : PrimitiveTree) (t : TyTree) (v u : DocTree) → act_primitive t p v ≡ Ok u → primitive_depth p + 1 ≤ height t
  primitive_low (set a) t v u h = has_level t
  primitive_low (add n) t v u h = has_level t
  primitive_low (splice i k s) t v u h = has_level t
  primitive_low (shape e) t v u h = has_level t
  primitive_low (at f w) (ty_rec fs) (rec ds) u h =
      let s = present_ok (lookup_field fs f) Place (λ s. map_ok rec (put_result_at ds s.0 (act s.1 w (doc_at ds s.0)))) u h in
      let m = put_made ds s.0.0 (act s.0.1 w (doc_at ds s.0.0)) rec u s.2 in
      omega (arith, word_low w s.0.1 (doc_at ds s.0.0) m.0 m.1, lookup_field-height fs f s.0 s.1)
  primitive_low (at f w) t v u h = cc
  primitive_low (stay n w) (ty_alt fs) (alt a v) u h =
      let s = present_ok (lookup_type fs a) Tag (λ ty. map_ok (alt a) (inner (act ty w v))) u (if_made (bytes_eq n a) _ Tag u h) in
      let m = tag_made a (act s.0 w v) u s.2 in
      omega (arith, word_low w s.0 v m.0 m.1, tag_height fs a s.0 s.1)
  primitive_low (stay n w) t v u h = cc
  primitive_low (switch a b w) (ty_alt fs) (alt n v) u h =
      let s = present_ok (lookup_type fs b) Tag (λ ty. map_ok (alt b) (inner (act ty w (initial ty)))) u (if_made (bytes_eq a n) _ Tag u h) in
      let m = tag_made b (act s.0 w (initial s.0)) u s.2 in
      omega (arith, word_low w s.0 (initial s.0) m.0 m.1, tag_height fs b s.0 s.1)
  primitive_low (switch a b w) t v u h = cc
  primitive_low (modify (Index p) w) (ty_list t) (hold s ds) u h =
      let m = place_made (λ v. act t w v) s ds (Index p) u h in
      omega (arith, word_low w t m.0 m.1.0 m.1.1)
  primitive_low (modify (Key k) w) (ty_keyed t) (hold s ds) u h =
      let m = place_made (λ v. act t w v) s ds (Key k) u h in
      omega (arith, word_low w t m.0 m.1.0 m.1.1)
  primitive_low (modify (Node q) w) (ty_ordered t) (hold s ds) u h =
      let m = place_made (λ v. act t w v) s ds (Node q) u h in
      omega (arith, word_low w t m.0 m.1.0 m.1.1)
  primitive_low (modify p w) t v u h = cc
