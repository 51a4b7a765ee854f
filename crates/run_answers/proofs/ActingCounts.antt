-- A word that acts on a document has counts that fit: the action refuses every other insertion and deletion.
use Rattle.std.proofs.Common.{◌≡◌, ℕ, Bool, true, false, ◌&&◌, cond, List, Option, None, Some, Result, Ok, Err, refl}
use Rattle.std.specs.Prelude.{bytes_eq, nat_le}
use Rattle.texts.proofs.Conjunction.{both}
use Rattle.hold_shapes.specs.declared.shape.Shape.{Shape}
use Rattle.hold_shapes.specs.declared.shape.Shape.TheVariants.{List as ListOf, Keyed as KeyedOf, Tree as TreeOf}
use Rattle.hold_shapes.specs.declared.edit.Place.{Place as PlaceOf}
use Rattle.hold_shapes.specs.declared.edit.Place.TheVariants.{Index, Key, Node}
use Rattle.hold_shapes.specs.declared.edit.ShapeEdit.{ShapeEdit}
use Rattle.hold_shapes.specs.declared.edit.ShapeEdit.TheVariants.{Ins, Del}
use Rattle.hold_shapes.specs.declared.origins.Origin.{Origin}
use Rattle.hold_shapes.specs.Causes.{Range as TooMany}
use Rattle.hold_shapes.specs.Plans.{plan, Planned, is_count}
use Rattle.hold_shapes.specs.Shapes.{place_of}
use Rattle.doc_values.specs.Documents.{DocTree, rec, alt, hold, DocTrees}
use Rattle.doc_values.specs.Types.{TyTree, ty_rec, ty_alt, ty_list, ty_keyed, ty_ordered}
use Rattle.doc_values.specs.Typing.{lookup_field, lookup_type}
use Rattle.doc_values.specs.Initial.{initial}
use Rattle.edit_module.specs.declared.fault.Cause.{Cause}
use Rattle.edit_module.specs.declared.fault.Cause.TheVariants.{Place, Tag}
use Rattle.edit_module.specs.Words.{PrimitiveTree, set, add, splice, at, stay, switch, modify, shape, WordTree, no_primitives, more_primitives}
use Rattle.edit_module.specs.Action.{Why, act, act_primitive, inner, map_ok, if_present, put_result_at, put_at, doc_at, reshaped}
use Rattle.edit_module.proofs.ActionKeepsTypes.{after_ok}
use Rattle.edit_json.specs.WordJson.{counts_fit, primitive_counts_fit, edit_counts_fit}

-- ---- what comes before an answer that is Ok

present_ok : {A : Type 0} (o : Option A) (c : Cause) (f : A → Result DocTree Cause) (u : DocTree) → if_present o c f ≡ Ok u → (x : A) × (f x ≡ Ok u)
present_ok None c f u e = cc
present_ok (Some x) c f u e = (x, e)

if_ok : (b : Bool) (c : Cause) (r : Result DocTree Cause) (u : DocTree) → cond b r (Err c) ≡ Ok u → r ≡ Ok u
if_ok true c r u e = e
if_ok false c r u e = cc

inner_ok : {B : Type 0} (f : DocTree → B) (r : Result DocTree Why) (y : B) → map_ok f (inner r) ≡ Ok y → (x : DocTree) × (r ≡ Ok x)
inner_ok f (Ok x) y e = (x, refl)
inner_ok f (Err why) y e = cc

map_ok_ok : {A B : Type 0} (f : A → B) (r : Result A Cause) (y : B) → map_ok f r ≡ Ok y → (x : A) × (r ≡ Ok x)
map_ok_ok f (Ok x) y e = (x, refl)
map_ok_ok f (Err c) y e = cc

reshaped_ok : (p : Planned) (ds : DocTrees) (d u : DocTree) → reshaped p ds d ≡ Ok u → (q : Shape × List Origin) × (p ≡ Ok q)
reshaped_ok (Ok q) ds d u e = (q, refl)
reshaped_ok (Err cause) ds d u e = cc

-- a content with a word inside
content_ok : (wrap : DocTrees → DocTree) (ds : DocTrees) (i : ℕ) (r : Result DocTree Why) (u : DocTree) → map_ok wrap (put_result_at ds i r) ≡ Ok u → (x : DocTree) × (r ≡ Ok x)
content_ok wrap ds i r u e = let a = map_ok_ok wrap (put_result_at ds i r) u e in inner_ok (put_at ds i) r a.0 a.1

-- ---- edits of shapes

-- a plan of an edit of many items shows that they are 1 to 65,536
counted : {X : Type 0} (c b : Bool) (x y : X) → cond (c && b) (Ok x) (Err TooMany) ≡ Ok y → c ≡ true
counted true b x y e = refl
counted false b x y e = cc

counted_alone : {X : Type 0} (c : Bool) (x y : X) → cond c (Ok x) (Err TooMany) ≡ Ok y → c ≡ true
counted_alone true x y e = refl
counted_alone false x y e = cc

plan_fits : (s : Shape) (e : ShapeEdit) (q : Shape × List Origin) → plan s e ≡ Ok q → edit_counts_fit e ≡ true
plan_fits (ListOf s) (Ins c) q h = counted_alone (is_count c) _ q h
plan_fits (ListOf s) (Del c) q h = counted (is_count c) (nat_le c s.count) _ q h
plan_fits (KeyedOf ks) (Ins c) q h = cc
plan_fits (KeyedOf ks) (Del c) q h = cc
plan_fits (TreeOf ds) (Ins c) q h = cc
plan_fits (TreeOf ds) (Del c) q h = cc
plan_fits s e q h = refl

edit_fits : (s : Shape) (e : ShapeEdit) (ds : DocTrees) (d u : DocTree) → reshaped (plan s e) ds d ≡ Ok u → edit_counts_fit e ≡ true
edit_fits s e ds d u h = let p = reshaped_ok (plan s e) ds d u h in plan_fits s e p.0 p.1

-- ---- words

-- a word that acts on a document of any type has counts that fit
abbrev Fit : WordTree → Type 0
Fit w = (t : TyTree) (v u : DocTree) → act t w v ≡ Ok u → counts_fit w ≡ true

place_fits : (w : WordTree) → Fit w → (t : TyTree) (s : Shape) (ds : DocTrees) (p : PlaceOf) (u : DocTree)
    → if_present (place_of s p) Place (λ i. map_ok (hold s) (put_result_at ds i (act t w (doc_at ds i)))) ≡ Ok u → counts_fit w ≡ true
place_fits w fit t s ds p u e =
    let i = present_ok (place_of s p) Place (λ i. map_ok (hold s) (put_result_at ds i (act t w (doc_at ds i)))) u e in
    let x = content_ok (hold s) ds i.0 (act t w (doc_at ds i.0)) u i.1 in
    fit t (doc_at ds i.0) x.0 x.1

mutual
  primitive_fits : (p : PrimitiveTree) (t : TyTree) (v u : DocTree) → act_primitive t p v ≡ Ok u → primitive_counts_fit p ≡ true
  primitive_fits (set a) t v u e = refl
  primitive_fits (add n) t v u e = refl
  primitive_fits (splice i k s) t v u e = refl
  primitive_fits (at f w) (ty_rec fs) (rec ds) u e =
      let s = present_ok (lookup_field fs f) Place (λ (s : ℕ × TyTree). map_ok rec (put_result_at ds s.0 (act s.1 w (doc_at ds s.0)))) u e in
      let x = content_ok rec ds s.0.0 (act s.0.1 w (doc_at ds s.0.0)) u s.1 in
      acting_fits w s.0.1 (doc_at ds s.0.0) x.0 x.1
  primitive_fits (at f w) _ _ u e = cc
  primitive_fits (stay t w) (ty_alt fs) (alt a v) u e =
      let s = present_ok (lookup_type fs a) Tag (λ ty. map_ok (alt a) (inner (act ty w v))) u (if_ok (bytes_eq t a) Tag _ u e) in
      let x = inner_ok (alt a) (act s.0 w v) u s.1 in
      acting_fits w s.0 v x.0 x.1
  primitive_fits (stay t w) _ _ u e = cc
  primitive_fits (switch a b w) (ty_alt fs) (alt t v) u e =
      let s = present_ok (lookup_type fs b) Tag (λ ty. map_ok (alt b) (inner (act ty w (initial ty)))) u (if_ok (bytes_eq a t) Tag _ u e) in
      let x = inner_ok (alt b) (act s.0 w (initial s.0)) u s.1 in
      acting_fits w s.0 (initial s.0) x.0 x.1
  primitive_fits (switch a b w) _ _ u e = cc
  primitive_fits (modify (Index p) w) (ty_list t) (hold s ds) u e = place_fits w (acting_fits w) t s ds (Index p) u e
  primitive_fits (modify (Key k) w) (ty_keyed t) (hold s ds) u e = place_fits w (acting_fits w) t s ds (Key k) u e
  primitive_fits (modify (Node q) w) (ty_ordered t) (hold s ds) u e = place_fits w (acting_fits w) t s ds (Node q) u e
  primitive_fits (modify p w) _ _ u e = cc
  primitive_fits (shape e) (ty_list t) (hold s ds) u h = edit_fits s e ds (initial t) u h
  primitive_fits (shape e) (ty_keyed t) (hold s ds) u h = edit_fits s e ds (initial t) u h
  primitive_fits (shape e) (ty_ordered t) (hold s ds) u h = edit_fits s e ds (initial t) u h
  primitive_fits (shape e) _ _ u h = cc

  pub acting_fits : (w : WordTree) (t : TyTree) (v u : DocTree) → act t w v ≡ Ok u → counts_fit w ≡ true
  acting_fits no_primitives t v u e = refl
  acting_fits (more_primitives p w) t v u e =
      let s = after_ok (act_primitive t p v) (λ x. act t w x) u e in
      both (primitive_counts_fit p) (counts_fit w) (primitive_fits p t v s.0 s.1) (acting_fits w t s.0 u s.2)
