-- A word that acts on the far document leads the bridge on.
use Rattle.std.proofs.Common.{◌≡◌, ℕ, Bool, true, false, List, [], Option, Some, Ok, refl, sym, ap, ◌∙◌, subst, ℤ}
use Rattle.std.specs.Prelude.{◌&&◌, bytes_eq}
use Rattle.std.specs.Str.{is_utf8, IsUtf8}
use Rattle.std.proofs.lemmas.Str.{IsUtf8-from_is_utf8}
use Rattle.std.specs.Cmp.Lexicographic.{bytes_decides}
use Rattle.texts.specs.Characters.{character_count, splice as spliced}
use Rattle.texts.proofs.Conjunction.{first, second}
use Rattle.bridge_texts.specs.declared.run.Run.{Run}
use Rattle.bridge_texts.specs.Runs.{far_spliced, shortest}
use Rattle.doc_values.specs.Documents.{DocTree, unit, text, rec, alt, hold, DocTrees}
use Rattle.doc_values.specs.Types.{TyTree, ty_unit, ty_bool, ty_int, ty_text, ty_enum, ty_rec, ty_alt, ty_list, ty_keyed, ty_ordered, FieldTrees, is_well_formed}
use Rattle.doc_values.specs.Typing.{has, has_fields, lookup_field, lookup_type}
use Rattle.doc_values.specs.Initial.{initial}
use Rattle.doc_values.proofs.FieldPlaces.{lookup_field-well_formed, lookup_type-well_formed}
use Rattle.edit_module.specs.declared.atom.Atom.{Atom}
use Rattle.edit_module.specs.declared.fault.Cause.TheVariants.{Place, Tag, Range}
use Rattle.hold_shapes.specs.declared.edit.Place.{Place as PlaceOf}
use Rattle.hold_shapes.specs.declared.edit.Place.TheVariants.{Index, Key, Node}
use Rattle.hold_shapes.specs.declared.edit.ShapeEdit.{ShapeEdit}
use Rattle.edit_module.specs.Words.{PrimitiveTree, set, add, splice, at, stay, switch, modify, shape, WordTree, no_primitives, more_primitives}
use Rattle.edit_module.specs.Action.{act, act_primitive, inner, map_ok, if_present, put_result_at, doc_at}
use Rattle.edit_module.proofs.ActionKeepsTypes.{after_ok, present_ok, if_ok, map_ok_ok, inner_ok, in_ok, has_fields-at, content-has_type, has_primitive, well_formed-fields, well_formed-tags}
use Rattle.bridge_core.specs.Bridges.{BridgeTree, same, other, lost, cells, parts, arm, away, linked, bridge_at, put_bridge_at}
use Rattle.bridge_core.specs.Bridged.{for_found, with_splice, bridge_splice, parts_of, bridge_field, arm_of, bridge_stay, bridge_switch, bridge, bridge_primitive}
use Rattle.bridge_core.specs.Spans.{is_plain, is_row, SpanTexts, AtType, Spans, SpanFields}
use Rattle.bridge_core.proofs.TextLaws.{SameTexts, FarSplices}
use Rattle.bridge_core.proofs.ListSpans.{LeadsOn, item-bridges, shape-bridges}
use Rattle.bridge_core.proofs.BridgeLists.{same-fields, field-spans, far-field-set}

-- what is known of both documents when a primitive has acted on the far one
pub record HasActed (t : TyTree) (p : PrimitiveTree) (b : BridgeTree) (s v u : DocTree) : Type 0 where
  pub sound : is_well_formed t ≡ true
  pub near : has t s ≡ true
  pub far : has t v ≡ true
  pub spans : Spans b t s v
  pub acts : act_primitive t p v ≡ Ok u

now-has : (t : TyTree) (p : PrimitiveTree) (b : BridgeTree) (s v u : DocTree) → HasActed t p b s v u → has t u ≡ true
now-has t p b s v u h = has_primitive t p v u h.sound h.far h.acts

abbrev pub Bridges : PrimitiveTree → Type 0
Bridges p = (t : TyTree) (b : BridgeTree) (s v u : DocTree) → HasActed t p b s v u → Spans (bridge_primitive t p v b) t s u

-- ---- values

set-bridges : (a : Atom) → Bridges (set a)
set-bridges a ty_bool b s v u h = record { kind_is = refl; near_has = h.near; far_has = now-has ty_bool (set a) b s v u h }
set-bridges a (ty_int z) b s v u h = record { kind_is = refl; near_has = h.near; far_has = now-has (ty_int z) (set a) b s v u h }
set-bridges a (ty_text z) b s v u h = record { kind_is = refl; near_has = h.near; far_has = now-has (ty_text z) (set a) b s v u h }
set-bridges a (ty_enum ms z) b s v u h = record { kind_is = refl; near_has = h.near; far_has = now-has (ty_enum ms z) (set a) b s v u h }
set-bridges a ty_unit b s v u h = let e = h.acts in absurd cc
set-bridges a (ty_rec fs) b s v u h = let e = h.acts in absurd cc
set-bridges a (ty_alt fs) b s v u h = let e = h.acts in absurd cc
set-bridges a (ty_list t) b s v u h = let e = h.acts in absurd cc
set-bridges a (ty_keyed t) b s v u h = let e = h.acts in absurd cc
set-bridges a (ty_ordered t) b s v u h = let e = h.acts in absurd cc

add-plain : (t : TyTree) (n : ℤ) (v u : DocTree) → act_primitive t (add n) v ≡ Ok u → is_plain t ≡ true
add-plain (ty_int z) n v u e = refl
add-plain _ n v u e = absurd cc

add-bridges : (n : ℤ) → Bridges (add n)
add-bridges n t b s v u h = record { kind_is = add-plain t n v u h.acts; near_has = h.near; far_has = now-has t (add n) b s v u h }

-- ---- texts

splice-known : (z : List ℕ) (known : Bool) (rs : List Run) (i k : ℕ) (x v r : List ℕ) (s : DocTree) → has (ty_text z) s ≡ true → (known ≡ true → SpanTexts (shortest (far_spliced rs i k (character_count x))) s (text r))
    → Spans (with_splice known rs i k x) (ty_text z) s (text r)
splice-known z true rs i k x v r s h k' = k' refl
splice-known z false rs i k x v r s h k' = record { kind_is = refl; near_has = h; far_has = refl }

module _ (same_texts : SameTexts) (far_splices : FarSplices) where
  splice-runs : (rs : List Run) (i k : ℕ) (x v r : List ℕ) (s : DocTree) → IsUtf8 x → SpanTexts rs s (text v) → spliced v i k x ≡ Some r → SpanTexts (shortest (far_spliced rs i k (character_count x))) s (text r)
  splice-runs rs i k x v r (text s) o h e = far_splices rs i k x s v r o h e
  splice-runs rs i k x v r _ o h e = absurd h

  -- the bridge of a text that nobody has edited yet, and of one that was edited
  splice-spans : (z : List ℕ) (b : BridgeTree) (i k : ℕ) (x v r : List ℕ) (s : DocTree) → has (ty_text z) s ≡ true → Spans b (ty_text z) s (text v) → spliced v i k x ≡ Some r → Spans (bridge_splice v b i k x) (ty_text z) s (text r)
  splice-spans z same i k x v r s h w e =
      splice-known z (is_utf8 v && is_utf8 x) [] i k x v r s h
      (λ known. splice-runs [] i k x v r s (IsUtf8-from_is_utf8 x (second (is_utf8 v) (is_utf8 x) known)) (subst (λ d. SpanTexts [] d (text v)) (sym w) (same_texts v (IsUtf8-from_is_utf8 v (first (is_utf8 v) (is_utf8 x) known)))) e)
  splice-spans z (cells rs) i k x v r s h w e = splice-known z (is_utf8 x) rs i k x v r s h (λ known. splice-runs rs i k x v r s (IsUtf8-from_is_utf8 x known) w e)
  splice-spans z other i k x v r s h w e = record { kind_is = refl; near_has = h; far_has = refl }
  splice-spans z lost i k x v r s h w e = record { kind_is = refl; near_has = h; far_has = refl }
  splice-spans z (parts bs) i k x v r s h w e = record { kind_is = refl; near_has = h; far_has = refl }
  splice-spans z (arm a b) i k x v r s h w e = record { kind_is = refl; near_has = h; far_has = refl }
  splice-spans z (away a b) i k x v r s h w e = record { kind_is = refl; near_has = h; far_has = refl }
  splice-spans z (linked ls m bs) i k x v r s h w e = record { kind_is = refl; near_has = h; far_has = refl }

  splice-text : (i k : ℕ) (x : List ℕ) (t : TyTree) (b : BridgeTree) (s v u : DocTree) → has t s ≡ true → Spans b t s v → act_primitive t (splice i k x) v ≡ Ok u → Spans (bridge_primitive t (splice i k x) v b) t s u
  splice-text i k x (ty_text z) b s (text v) u h w e =
      let r = present_ok (spliced v i k x) Range (λ r. Ok (text r)) u e in
      let is : text r.0 ≡ u = cc (r.2) in
      subst (λ d. Spans (bridge_splice v b i k x) (ty_text z) s d) is (splice-spans z b i k x v r.0 s h w r.1)
  splice-text i k x _ b s _ u h w e = absurd cc

  splice-bridges : (i k : ℕ) (x : List ℕ) → Bridges (splice i k x)
  splice-bridges i k x t b s v u h = splice-text i k x t b s v u h.near h.spans h.acts

  -- ---- records

  -- the far record spans the near one by its parts
  record HasParts (b : BridgeTree) (fs : FieldTrees) (s : DocTree) (es : DocTrees) : Type 0 where
    docs : DocTrees
    is : s ≡ rec docs
    typed : has_fields fs docs ≡ true
    spans : SpanFields (parts_of b es) fs docs es

  has-parts : (b : BridgeTree) (fs : FieldTrees) (s : DocTree) (es : DocTrees) → has (ty_rec fs) s ≡ true → has_fields fs es ≡ true → Spans b (ty_rec fs) s (rec es) → HasParts b fs s es
  has-parts same fs s es h k w = record { docs = es; is = w; typed = k; spans = same-fields fs es k }
  has-parts (parts bs) fs (rec ds) es h k w = record { docs = ds; is = refl; typed = h; spans = w }
  has-parts other fs s es h k w = let e = w.kind_is in absurd cc
  has-parts lost fs s es h k w = let e = w.kind_is in absurd cc
  has-parts (cells rs) fs (text s) es h k w = absurd w
  has-parts (cells rs) fs _ es h k w = absurd w
  has-parts _ fs _ es h k w = absurd w

  at-bridge : (fs : FieldTrees) (f : List ℕ) (w : WordTree) (b : BridgeTree) (es : DocTrees) (l : ℕ × TyTree) → lookup_field fs f ≡ Some l
      → bridge_primitive (ty_rec fs) (at f w) (rec es) b ≡ bridge_field (parts_of b es) l.0 (λ d. bridge l.1 w (doc_at es l.0) d)
  at-bridge fs f w b es l e = ap (λ (o : Option (ℕ × TyTree)). for_found b o (λ s. bridge_field (parts_of b es) s.0 (λ d. bridge s.1 w (doc_at es s.0) d))) e

  at-bridges : (f : List ℕ) (w : WordTree) → LeadsOn w → Bridges (at f w)
  at-bridges f w k (ty_rec fs) b s (rec es) u h =
      let q = has-parts b fs s es h.near h.far h.spans in
      let l = present_ok (lookup_field fs f) Place (λ (l : ℕ × TyTree). map_ok rec (put_result_at es l.0 (act l.1 w (doc_at es l.0)))) u h.acts in
      let a = map_ok_ok rec (put_result_at es l.0.0 (act l.0.1 w (doc_at es l.0.0))) u l.2 in
      let i = in_ok es l.0.0 (act l.0.1 w (doc_at es l.0.0)) a.0 a.1 in
      let c = bridge_at (parts_of b es) l.0.0 in
      let near : has l.0.1 (doc_at q.docs l.0.0) ≡ true = (has_fields-at fs q.docs f l.0 unit q.typed l.1).1 in
      let far : has l.0.1 (doc_at es l.0.0) ≡ true = (has_fields-at fs es f l.0 unit h.far l.1).1 in
      let inside : Spans (bridge l.0.1 w (doc_at es l.0.0) c) l.0.1 (doc_at q.docs l.0.0) i.0 =
      k l.0.1 c (doc_at q.docs l.0.0) (doc_at es l.0.0) i.0 (lookup_field-well_formed fs f l.0 (well_formed-fields fs h.sound) l.1) near far (field-spans (parts_of b es) fs q.docs es f l.0 q.spans l.1) i.1 in
      let whole = far-field-set (parts_of b es) fs q.docs es f l.0 (bridge l.0.1 w (doc_at es l.0.0) c) i.0 q.spans l.1 inside in
      let made : Spans (bridge_field (parts_of b es) l.0.0 (λ d. bridge l.0.1 w (doc_at es l.0.0) d)) (ty_rec fs) (rec q.docs) u =
      subst (λ d. Spans (bridge_field (parts_of b es) l.0.0 (λ d. bridge l.0.1 w (doc_at es l.0.0) d)) (ty_rec fs) (rec q.docs) d) a.2
      (subst (λ x. SpanFields (put_bridge_at (parts_of b es) l.0.0 (bridge l.0.1 w (doc_at es l.0.0) c)) fs q.docs x) i.2 whole) in
      subst (λ d. Spans (bridge_primitive (ty_rec fs) (at f w) (rec es) b) (ty_rec fs) d u) (sym q.is)
      (subst (λ d. Spans d (ty_rec fs) (rec q.docs) u) (sym (at-bridge fs f w b es l.0 l.1)) made)
  at-bridges f w k _ b s _ u h = let e = h.acts in absurd cc

  -- ---- alternatives

  same-name : (a b : List ℕ) → bytes_eq a b ≡ true → a ≡ b
  same-name a b e = (bytes_decides a b).0 e

  -- the content of the tag is acted on
  stay-spans : (fs : FieldTrees) (b : BridgeTree) (tag : List ℕ) (s v r : DocTree) (t : TyTree) (w : WordTree) → LeadsOn w → is_well_formed t ≡ true → lookup_type fs tag ≡ Some t → has (ty_alt fs) s ≡ true → has t v ≡ true
      → Spans b (ty_alt fs) s (alt tag v) → act t w v ≡ Ok r → Spans (bridge_stay b tag (bridge t w v (arm_of b))) (ty_alt fs) s (alt tag r)
  stay-spans fs same tag s v r t w k sound l n f h e =
      let inside : Spans (bridge t w v same) t v r = k t same v v r sound f f refl e in
      let found : AtType (lookup_type fs tag) (λ t'. Spans (bridge t w v same) t' v r) = rw l inside in
      subst (λ d. Spans (arm tag (bridge t w v same)) (ty_alt fs) d (alt tag r)) (sym h) (refl, refl, found)
  stay-spans fs (arm a b) tag (alt c s) v r t w k sound l n f h e =
      let tagged : a ≡ tag = sym h.1 in
      let near : c ≡ tag = h.0 ∙ tagged in
      let there : lookup_type fs a ≡ Some t = ap (lookup_type fs) tagged ∙ l in
      let was : Spans b t s v = subst (λ (o : Option TyTree). AtType o (λ t'. Spans b t' s v)) there h.2 in
      let typed : has t s ≡ true = content-has_type fs tag s t (subst (λ x. has (ty_alt fs) (alt x s) ≡ true) near n) l in
      let inside : Spans (bridge t w v b) t s r = k t b s v r sound typed f was e in
      (near, refl, rw l inside)
  stay-spans fs (away a b) tag (alt c s) v r t w k sound l n f h e = (h.0, h.1)
  stay-spans fs other tag s v r t w k sound l n f h e = let g = h.kind_is in absurd cc
  stay-spans fs lost tag s v r t w k sound l n f h e = let g = h.kind_is in absurd cc
  stay-spans fs (cells rs) tag (text s) v r t w k sound l n f h e = absurd h
  stay-spans fs (cells rs) tag _ v r t w k sound l n f h e = absurd h
  stay-spans fs _ tag _ v r t w k sound l n f h e = absurd h

  stay-bridges : (a : List ℕ) (w : WordTree) → LeadsOn w → Bridges (stay a w)
  stay-bridges a w k (ty_alt fs) b s (alt tag v) u h =
      let c = if_ok (bytes_eq a tag) Tag (if_present (lookup_type fs tag) Tag (λ t. map_ok (alt tag) (inner (act t w v)))) u h.acts in
      let l = present_ok (lookup_type fs tag) Tag (λ t. map_ok (alt tag) (inner (act t w v))) u c.1 in
      let r = map_ok_ok (alt tag) (inner (act l.0 w v)) u l.2 in
      let sound = lookup_type-well_formed fs tag l.0 (well_formed-tags fs h.sound) l.1 in
      let made = stay-spans fs b tag s v r.0 l.0 w k sound l.1 h.near (content-has_type fs tag v l.0 h.far l.1) h.spans (inner_ok (act l.0 w v) r.0 r.1) in
      let there : bridge_primitive (ty_alt fs) (stay a w) (alt tag v) b ≡ bridge_stay b tag (bridge l.0 w v (arm_of b)) = ap (λ (o : Option TyTree). for_found b o (λ t. bridge_stay b tag (bridge t w v (arm_of b)))) l.1 in
      subst (λ d. Spans d (ty_alt fs) s u) (sym there) (subst (λ d. Spans (bridge_stay b tag (bridge l.0 w v (arm_of b))) (ty_alt fs) s d) r.2 made)
  stay-bridges a w k _ b s _ u h = let e = h.acts in absurd cc

  -- the far document goes to another tag
  switch-spans : (fs : FieldTrees) (b : BridgeTree) (a c : List ℕ) (s v r : DocTree) → Spans b (ty_alt fs) s (alt a v) → Spans (bridge_switch b a c) (ty_alt fs) s (alt c r)
  switch-spans fs same a c s v r h = subst (λ d. Spans (away a c) (ty_alt fs) d (alt c r)) (sym h) (refl, refl)
  switch-spans fs (arm x b) a c (alt d s) v r h = (h.0 ∙ sym h.1, refl)
  switch-spans fs (away x y) a c (alt d s) v r h = (h.0, refl)
  switch-spans fs other a c s v r h = let g = h.kind_is in absurd cc
  switch-spans fs lost a c s v r h = let g = h.kind_is in absurd cc
  switch-spans fs (cells rs) a c (text s) v r h = absurd h
  switch-spans fs (cells rs) a c _ v r h = absurd h
  switch-spans fs _ a c _ v r h = absurd h

  switch-bridges : (a c : List ℕ) (w : WordTree) → Bridges (switch a c w)
  switch-bridges a c w (ty_alt fs) b s (alt d v) u h =
      let n = if_ok (bytes_eq a d) Tag (if_present (lookup_type fs c) Tag (λ t. map_ok (alt c) (inner (act t w (initial t))))) u h.acts in
      let l = present_ok (lookup_type fs c) Tag (λ t. map_ok (alt c) (inner (act t w (initial t)))) u n.1 in
      let r = map_ok_ok (alt c) (inner (act l.0 w (initial l.0))) u l.2 in
      let was : Spans b (ty_alt fs) s (alt a v) = subst (λ x. Spans b (ty_alt fs) s (alt x v)) (sym (same-name a d n.0)) h.spans in
      subst (λ x. Spans (bridge_switch b a c) (ty_alt fs) s x) r.2 (switch-spans fs b a c s v r.0 was)
  switch-bridges a c w _ b s _ u h = let e = h.acts in absurd cc

  -- ---- containers

  modify-bridges : (p : PlaceOf) (w : WordTree) → LeadsOn w → Bridges (modify p w)
  modify-bridges (Index i) w k (ty_list t) b s (hold y es) u h = item-bridges i w k t b s y es u h.sound h.near h.far h.spans h.acts
  modify-bridges (Key q) w k (ty_keyed t) b s v u h = record { kind_is = refl; near_has = h.near; far_has = now-has (ty_keyed t) (modify (Key q) w) b s v u h }
  modify-bridges (Node q) w k (ty_ordered t) b s v u h = record { kind_is = refl; near_has = h.near; far_has = now-has (ty_ordered t) (modify (Node q) w) b s v u h }
  modify-bridges _ w k _ b s _ u h = let e = h.acts in absurd cc

  shaped-bridges : (a : ShapeEdit) → Bridges (shape a)
  shaped-bridges a (ty_list t) b s (hold y es) u h = shape-bridges a t b s y es u h.near h.far h.spans h.acts
  shaped-bridges a (ty_keyed t) b s v u h = record { kind_is = refl; near_has = h.near; far_has = now-has (ty_keyed t) (shape a) b s v u h }
  shaped-bridges a (ty_ordered t) b s v u h = record { kind_is = refl; near_has = h.near; far_has = now-has (ty_ordered t) (shape a) b s v u h }
  shaped-bridges a _ b s _ u h = let e = h.acts in absurd cc

  -- ---- all words

  mutual
    pub word-bridges : (w : WordTree) → LeadsOn w
    word-bridges no_primitives t b s v u sound n f h e = let is : v ≡ u = cc in subst (λ x. Spans b t s x) is h
    word-bridges (more_primitives p w) t b s v u sound n f h e =
        let x = after_ok (act_primitive t p v) (λ y. act t w y) u e in
        let one : Spans (bridge_primitive t p v b) t s x.0 = primitive-bridges p t b s v x.0 (record { sound = sound; near = n; far = f; spans = h; acts = x.1 }) in
        rw x.1 (word-bridges w t (bridge_primitive t p v b) s x.0 u sound n (has_primitive t p v x.0 sound f x.1) one x.2)

    pub primitive-bridges : (p : PrimitiveTree) → Bridges p
    primitive-bridges (set a) t b s v u h = set-bridges a t b s v u h
    primitive-bridges (add n) t b s v u h = add-bridges n t b s v u h
    primitive-bridges (splice i k x) t b s v u h = splice-bridges i k x t b s v u h
    primitive-bridges (at f w) t b s v u h = at-bridges f w (λ t' b' s' v' u' i j k l m. word-bridges w t' b' s' v' u' i j k l m) t b s v u h
    primitive-bridges (stay a w) t b s v u h = stay-bridges a w (λ t' b' s' v' u' i j k l m. word-bridges w t' b' s' v' u' i j k l m) t b s v u h
    primitive-bridges (switch a c w) t b s v u h = switch-bridges a c w t b s v u h
    primitive-bridges (modify p w) t b s v u h = modify-bridges p w (λ t' b' s' v' u' i j k l m. word-bridges w t' b' s' v' u' i j k l m) t b s v u h
    primitive-bridges (shape a) t b s v u h = shaped-bridges a t b s v u h
