-- Two primitives that merge act like the merged one.
use Rattle.std.proofs.Common.{◌≡◌, ℕ, ◌<◌, Bool, true, false, cond, Option, None, Some, List, length, get_or, set, bytes_eq, Result, Ok, Err, refl, sym, ap, subst, ◌∙◌}
use Rattle.std.proofs.lemmas.List.{get_or-set_same, set-set}
use Rattle.std.proofs.lemmas.Slice.Eq.{bytes_eq-Decides}
use Rattle.hold_shapes.specs.declared.shape.Shape.{Shape}
use Rattle.hold_shapes.specs.declared.edit.Place.{Place as PlaceOf}
use Rattle.hold_shapes.specs.declared.edit.Place.TheVariants.{Index, Key, Node}
use Rattle.hold_shapes.specs.Shapes.{place_of}
use Rattle.doc_values.specs.Documents.{DocTree, unit, rec, alt, hold, DocTrees, docs_of, doc_list}
use Rattle.doc_values.specs.Types.{TyTree, ty_rec, ty_alt, ty_list, ty_keyed, ty_ordered}
use Rattle.doc_values.specs.Typing.{has, lookup_field, lookup_type}
use Rattle.doc_values.specs.Initial.{initial}
use Rattle.doc_values.proofs.Lists.{doc_list-docs_of}
use Rattle.edit_module.specs.declared.fault.Cause.{Cause}
use Rattle.edit_module.specs.declared.fault.Cause.TheVariants.{Place, Tag}
use Rattle.edit_module.specs.Words.{PrimitiveTree, at, stay, switch, modify, WordTree, more_primitives, joined, word_length}
use Rattle.edit_module.specs.Action.{Why, act, act_primitive, later, after, inner, map_ok, if_present, act_at_place, put_result_at, put_at, doc_at}
use Rattle.edit_module.specs.Containers.{IsHeld}
use Rattle.edit_module.specs.Laws.{in_turn}
use Rattle.edit_module.specs.Normal.{is_same_place, merge}
use Rattle.edit_module.proofs.WordSteps.{act-joined}
use Rattle.edit_module.proofs.ActionKeepsTypes.{has_fields-at, list-held, keyed-held, tree-held, item-typed}
use Rattle.std.proofs.lemmas.Bool.{eqb-true}
use Rattle.texts.proofs.KeyOrder.{bytes_eq-refl}

-- ---- values and causes, one after another

abbrev pub value : TyTree → WordTree → DocTree → Result DocTree Cause
value t w v = inner (act t w v)

abbrev pub and_then : Result DocTree Cause → (DocTree → Result DocTree Cause) → Result DocTree Cause
and_then (Ok x) f = f x
and_then (Err c) f = Err c

pub and_then-same : (r : Result DocTree Cause) (f g : DocTree → Result DocTree Cause) → ((x : DocTree) → r ≡ Ok x → f x ≡ g x) → and_then r f ≡ and_then r g
and_then-same (Ok x) f g h = h x refl
and_then-same (Err c) f g h = refl

pub and_then-assoc : (r : Result DocTree Cause) (f g : DocTree → Result DocTree Cause) → and_then (and_then r f) g ≡ and_then r (λ x. and_then (f x) g)
and_then-assoc (Ok x) f g = refl
and_then-assoc (Err c) f g = refl

inner-later : (n : ℕ) (r : Result DocTree Why) → inner (later n r) ≡ inner r
inner-later n (Ok v) = refl
inner-later n (Err why) = refl

inner-after : (r : Result DocTree Cause) (f : DocTree → Result DocTree Why) → inner (after r f) ≡ and_then r (λ x. inner (f x))
inner-after (Ok x) f = inner-later 1 (f x)
inner-after (Err c) f = refl

inner-in_turn : (n : ℕ) (r : Result DocTree Why) (f : DocTree → Result DocTree Why) → inner (in_turn n r f) ≡ and_then (inner r) (λ x. inner (f x))
inner-in_turn n (Ok x) f = inner-later n (f x)
inner-in_turn n (Err why) f = refl

pub value-more : (t : TyTree) (p : PrimitiveTree) (w : WordTree) (v : DocTree) → value t (more_primitives p w) v ≡ and_then (act_primitive t p v) (λ x. value t w x)
value-more t p w v = inner-after (act_primitive t p v) (λ x. act t w x)

value-joined : (t : TyTree) (u w : WordTree) (v : DocTree) → value t (joined u w) v ≡ and_then (value t u v) (λ x. value t w x)
value-joined t u w v = ap inner (act-joined t u w v) ∙ inner-in_turn (word_length u) (act t u v) (λ x. act t w x)

-- ---- two words on one part of a document

map_ok-same : {A B : Type 0} (f g : A → B) (r : Result A Cause) → ((x : A) → f x ≡ g x) → map_ok f r ≡ map_ok g r
map_ok-same f g (Ok x) h = ap Ok (h x)
map_ok-same f g (Err c) h = refl

map_ok-twice : {A B C : Type 0} (f : A → B) (g : B → C) (r : Result A Cause) → map_ok g (map_ok f r) ≡ map_ok (λ x. g (f x)) r
map_ok-twice f g (Ok x) = refl
map_ok-twice f g (Err c) = refl

part-result : (wrap : DocTree → DocTree) (r : Result DocTree Cause) (f next : DocTree → Result DocTree Cause) → ((y : DocTree) → next (wrap y) ≡ map_ok wrap (f y))
    → map_ok wrap (and_then r f) ≡ and_then (map_ok wrap r) next
part-result wrap (Ok y) f next h = sym (h y)
part-result wrap (Err c) f next h = refl

-- a part is put back by `wrap`; what comes next acts on the same part
part-twice : (wrap : DocTree → DocTree) (t : TyTree) (u v : WordTree) (x : DocTree) (next : DocTree → Result DocTree Cause)
    → ((y : DocTree) → next (wrap y) ≡ map_ok wrap (value t v y))
    → map_ok wrap (value t (joined u v) x) ≡ and_then (map_ok wrap (value t u x)) next
part-twice wrap t u v x next h = ap (map_ok wrap) (value-joined t u v x) ∙ part-result wrap (value t u x) (λ y. value t v y) next h

doc_at-put : (ds : DocTrees) (i : ℕ) (x : DocTree) → i < length (doc_list ds) → doc_at (put_at ds i x) i ≡ x
doc_at-put ds i x h = ap (λ z. get_or z i unit) (doc_list-docs_of (set (doc_list ds) i x)) ∙ get_or-set_same (doc_list ds) i x unit h

put_at-put : (ds : DocTrees) (i : ℕ) (x y : DocTree) → put_at (put_at ds i x) i y ≡ put_at ds i y
put_at-put ds i x y = ap docs_of (ap (λ z. set z i y) (doc_list-docs_of (set (doc_list ds) i x)) ∙ set-set (doc_list ds) i x y)

put-result : (wrap : DocTrees → DocTree) (ds : DocTrees) (i : ℕ) (t : TyTree) (v : WordTree) (y : DocTree) → i < length (doc_list ds)
    → map_ok wrap (put_result_at (put_at ds i y) i (act t v (doc_at (put_at ds i y) i))) ≡ map_ok (λ z. wrap (put_at ds i z)) (value t v y)
put-result wrap ds i t v y h =
    map_ok-twice (put_at (put_at ds i y) i) wrap (value t v (doc_at (put_at ds i y) i))
    ∙ ap (λ z. map_ok (λ x. wrap (put_at (put_at ds i y) i x)) (value t v z)) (doc_at-put ds i y h)
    ∙ map_ok-same (λ x. wrap (put_at (put_at ds i y) i x)) (λ x. wrap (put_at ds i x)) (value t v y) (λ x. ap wrap (put_at-put ds i y x))

-- one of the contents is put back at its place
place-twice : (wrap : DocTrees → DocTree) (ds : DocTrees) (i : ℕ) (t : TyTree) (u v : WordTree) (next : DocTree → Result DocTree Cause) → i < length (doc_list ds)
    → ((es : DocTrees) → next (wrap es) ≡ map_ok wrap (put_result_at es i (act t v (doc_at es i))))
    → map_ok wrap (put_result_at ds i (act t (joined u v) (doc_at ds i))) ≡ and_then (map_ok wrap (put_result_at ds i (act t u (doc_at ds i)))) next
place-twice wrap ds i t u v next h e =
    map_ok-twice (put_at ds i) wrap (value t (joined u v) (doc_at ds i))
    ∙ part-twice (λ z. wrap (put_at ds i z)) t u v (doc_at ds i) next (λ y. e (put_at ds i y) ∙ put-result wrap ds i t v y h)
    ∙ ap (λ r. and_then r next) (sym (map_ok-twice (put_at ds i) wrap (value t u (doc_at ds i))))

-- ---- the four cases

fields-merge : (f : List ℕ) (u v : WordTree) (t : TyTree) (x : DocTree) → has t x ≡ true
    → act_primitive t (at f (joined u v)) x ≡ and_then (act_primitive t (at f u) x) (λ y. act_primitive t (at f v) y)
fields-merge f u v (ty_rec fs) (rec ds) h = go (lookup_field fs f) refl
  where
    go : (o : Option (ℕ × TyTree)) → lookup_field fs f ≡ o
        → if_present o Place (λ s. map_ok rec (put_result_at ds s.0 (act s.1 (joined u v) (doc_at ds s.0))))
        ≡ and_then (if_present o Place (λ s. map_ok rec (put_result_at ds s.0 (act s.1 u (doc_at ds s.0))))) (λ y. act_primitive (ty_rec fs) (at f v) y)
    go None e = refl
    go (Some s) e = place-twice rec ds s.0 s.1 u v (λ y. act_primitive (ty_rec fs) (at f v) y) (has_fields-at fs ds f s unit h e).0 (λ es. rw e refl)
fields-merge f u v _ _ h = refl

contents-merge : (a : List ℕ) (u v : WordTree) (t : TyTree) (x : DocTree)
    → act_primitive t (stay a (joined u v)) x ≡ and_then (act_primitive t (stay a u) x) (λ y. act_primitive t (stay a v) y)
contents-merge a u v (ty_alt fs) (alt b x) = go (bytes_eq a b) refl (lookup_type fs b) refl
  where
    go : (c : Bool) → bytes_eq a b ≡ c → (o : Option TyTree) → lookup_type fs b ≡ o
        → cond c (if_present o Tag (λ ty. map_ok (alt b) (inner (act ty (joined u v) x)))) (Err Tag)
        ≡ and_then (cond c (if_present o Tag (λ ty. map_ok (alt b) (inner (act ty u x)))) (Err Tag)) (λ y. act_primitive (ty_alt fs) (stay a v) y)
    go false d o e = refl
    go true d None e = refl
    go true d (Some ty) e = part-twice (alt b) ty u v x (λ y. act_primitive (ty_alt fs) (stay a v) y) (λ y. rw (d, e) refl)
contents-merge a u v _ _ = refl

switch-merge : (a b : List ℕ) (u v : WordTree) (t : TyTree) (x : DocTree)
    → act_primitive t (switch a b (joined u v)) x ≡ and_then (act_primitive t (switch a b u) x) (λ y. act_primitive t (stay b v) y)
switch-merge a b u v (ty_alt fs) (alt c x) = go (bytes_eq a c) (lookup_type fs b) refl
  where
    go : (d : Bool) (o : Option TyTree) → lookup_type fs b ≡ o
        → cond d (if_present o Tag (λ ty. map_ok (alt b) (inner (act ty (joined u v) (initial ty))))) (Err Tag)
        ≡ and_then (cond d (if_present o Tag (λ ty. map_ok (alt b) (inner (act ty u (initial ty))))) (Err Tag)) (λ y. act_primitive (ty_alt fs) (stay b v) y)
    go false o e = refl
    go true None e = refl
    go true (Some ty) e = part-twice (alt b) ty u v (initial ty) (λ y. act_primitive (ty_alt fs) (stay b v) y) (λ y. rw (bytes_eq-refl b, e) refl)
switch-merge a b u v _ _ = refl

item-merge : (t : TyTree) (s : Shape) (ds : DocTrees) (p : PlaceOf) (u v : WordTree) (next : DocTree → Result DocTree Cause) → IsHeld t s ds
    → ((es : DocTrees) → next (hold s es) ≡ act_at_place (λ x. act t v x) s es p)
    → act_at_place (λ x. act t (joined u v) x) s ds p ≡ and_then (act_at_place (λ x. act t u x) s ds p) next
item-merge t s ds p u v next h k = go (place_of s p) refl
  where
    go : (o : Option ℕ) → place_of s p ≡ o
        → if_present o Place (λ i. map_ok (hold s) (put_result_at ds i (act t (joined u v) (doc_at ds i))))
        ≡ and_then (if_present o Place (λ i. map_ok (hold s) (put_result_at ds i (act t u (doc_at ds i))))) next
    go None e = refl
    go (Some i) e = place-twice (hold s) ds i t u v next (item-typed t s ds p i h e).0
        (λ es. k es ∙ ap (λ o. if_present o Place (λ i. map_ok (hold s) (put_result_at es i (act t v (doc_at es i))))) e)

places-merge : (p : PlaceOf) (u v : WordTree) (t : TyTree) (x : DocTree) → has t x ≡ true
    → act_primitive t (modify p (joined u v)) x ≡ and_then (act_primitive t (modify p u) x) (λ y. act_primitive t (modify p v) y)
places-merge (Index p) u v (ty_list t) (hold s ds) h =
    item-merge t s ds (Index p) u v (λ y. act_primitive (ty_list t) (modify (Index p) v) y) (list-held t s ds h) (λ es. refl)
places-merge (Key k) u v (ty_keyed t) (hold s ds) h =
    item-merge t s ds (Key k) u v (λ y. act_primitive (ty_keyed t) (modify (Key k) v) y) (keyed-held t s ds h) (λ es. refl)
places-merge (Node q) u v (ty_ordered t) (hold s ds) h =
    item-merge t s ds (Node q) u v (λ y. act_primitive (ty_ordered t) (modify (Node q) v) y) (tree-held t s ds h) (λ es. refl)
places-merge _ u v _ _ h = refl

-- ---- any two primitives that merge

pub merged_is : (b : Bool) (p r : PrimitiveTree) → cond b (Some p) None ≡ Some r → (b ≡ true) × (p ≡ r)
merged_is true p r e = (refl, cc)
merged_is false p r e = cc

same_place-is : (p q : PlaceOf) → is_same_place p q ≡ true → p ≡ q
same_place-is (Index p) (Index q) e = ap Index (eqb-true p q e)
same_place-is (Key k) (Key l) e = ap Key ((bytes_eq-Decides k l).0 e)
same_place-is (Node p) (Node q) e = ap Node ((bytes_eq-Decides p q).0 e)
same_place-is _ _ e = cc

pub merge-acts : (p q r : PrimitiveTree) → merge p q ≡ Some r → (t : TyTree) (x : DocTree) → has t x ≡ true
    → act_primitive t r x ≡ and_then (act_primitive t p x) (λ y. act_primitive t q y)
merge-acts (at f u) (at g v) r e t x h =
    let m = merged_is (bytes_eq f g) (at f (joined u v)) r e in
    subst (λ z. act_primitive t z x ≡ and_then (act_primitive t (at f u) x) (λ y. act_primitive t (at g v) y)) m.1
    (subst (λ n. act_primitive t (at f (joined u v)) x ≡ and_then (act_primitive t (at f u) x) (λ y. act_primitive t (at n v) y)) ((bytes_eq-Decides f g).0 m.0)
    (fields-merge f u v t x h))
merge-acts (stay a u) (stay b v) r e t x h =
    let m = merged_is (bytes_eq a b) (stay a (joined u v)) r e in
    subst (λ z. act_primitive t z x ≡ and_then (act_primitive t (stay a u) x) (λ y. act_primitive t (stay b v) y)) m.1
    (subst (λ n. act_primitive t (stay a (joined u v)) x ≡ and_then (act_primitive t (stay a u) x) (λ y. act_primitive t (stay n v) y)) ((bytes_eq-Decides a b).0 m.0)
    (contents-merge a u v t x))
merge-acts (modify p u) (modify q v) r e t x h =
    let m = merged_is (is_same_place p q) (modify p (joined u v)) r e in
    subst (λ z. act_primitive t z x ≡ and_then (act_primitive t (modify p u) x) (λ y. act_primitive t (modify q v) y)) m.1
    (subst (λ n. act_primitive t (modify p (joined u v)) x ≡ and_then (act_primitive t (modify p u) x) (λ y. act_primitive t (modify n v) y)) (same_place-is p q m.0)
    (places-merge p u v t x h))
merge-acts (switch a b u) (stay c v) r e t x h =
    let m = merged_is (bytes_eq b c) (switch a b (joined u v)) r e in
    subst (λ z. act_primitive t z x ≡ and_then (act_primitive t (switch a b u) x) (λ y. act_primitive t (stay c v) y)) m.1
    (subst (λ n. act_primitive t (switch a b (joined u v)) x ≡ and_then (act_primitive t (switch a b u) x) (λ y. act_primitive t (stay n v) y)) ((bytes_eq-Decides b c).0 m.0)
    (switch-merge a b u v t x))
merge-acts _ _ r e t x h = cc
