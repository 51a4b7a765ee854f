-- The laws of alternatives, from those of the lenses of their arms.
use Rattle.std.proofs.Common.{◌≡◌, ◌⊎◌, ◌∙◌, inl, inr, ℕ, true, List, Option, None, Some, Result, Ok, refl, ap, sym, subst}
use Rattle.std.specs.Prelude.{bytes_eq}
use Rattle.texts.specs.declared.side.Side.{Side}
use Rattle.texts.specs.declared.side.Side.TheVariants.{Left, Right}
use Rattle.texts.specs.Sides.{other}
use Rattle.doc_values.specs.Documents.{DocTree, alt}
use Rattle.doc_values.specs.Types.{TyTree, ty_alt, FieldTrees, is_well_formed}
use Rattle.doc_values.specs.Typing.{has, lookup_type}
use Rattle.doc_values.specs.Initial.{initial}
use Rattle.doc_values.proofs.InitialTypes.{has_initial}
use Rattle.edit_module.specs.declared.fault.Cause.{Cause}
use Rattle.edit_module.specs.declared.fault.Cause.TheVariants.{Tag}
use Rattle.edit_module.specs.Words.{PrimitiveTree, set as set_to, add, splice, at, stay, switch, modify, shape, WordTree, no_primitives, more_primitives}
use Rattle.edit_module.specs.Action.{act, act_primitive, map_ok, if_present, inner}
use Rattle.edit_module.proofs.ActionKeepsTypes.{has_primitive, has_act}
use Rattle.lens_forms.specs.Forms.{form_alt, ArmTrees, no_arms, more_arms, left_type, left_tags, right_type, right_tags}
use Rattle.lens_core.specs.Sides.{near, type_on}
use Rattle.lens_core.specs.Emitted.{stay_word, switch_word}
use Rattle.lens_core.specs.Complements.{CompTree, alt_comp, missing}
use Rattle.lens_core.specs.Consistency.{IsConsistent, AreAlternatives, IsInArm}
use Rattle.lens_core.specs.Translation.{translate_one, translate_switch, far_tag}
use Rattle.lens_core.specs.Laws.{IsRelated, Carries, Laws}
use Rattle.lens_branch.specs.Branches.{AreLawfulAlternatives}
use Rattle.lens_branch.proofs.Triples.{carries_at}
use Rattle.lens_core.proofs.Arms.{AreApart, ArmIs, arm_fits, arm_left, arm_right, from_left, from_right, tags_on}
use Rattle.lens_branch.proofs.ArmSteps.{far_tag_is, stay_step, switch_step}
use Rattle.texts.proofs.Tests.{bytes_eq-is}
use Rattle.texts.proofs.KeyOrder.{bytes_eq-refl}
use Rattle.lens_core.proofs.Results.{tag_ok, content_ok}

-- ---- a consistent triple taken apart, and put together again

record IsAltTriple (arms : ArmTrees) (s : Side) (x : DocTree) (c : CompTree) (y : DocTree) : Type 0 where
  near_tag : List ℕ
  near_content : DocTree
  left_tag : List ℕ
  comp : CompTree
  other_tag : List ℕ
  other_content : DocTree
  near_is : x ≡ alt near_tag near_content
  comp_is : c ≡ alt_comp left_tag comp
  far_is : y ≡ alt other_tag other_content
  near_has : has (ty_alt (tags_on s arms)) (alt near_tag near_content) ≡ true
  far_has : has (ty_alt (tags_on (other s) arms)) (alt other_tag other_content) ≡ true
  related : ArmIs s arms near_tag near_content left_tag comp other_tag other_content

record AreAltParts (R : List ℕ → DocTree → List ℕ → CompTree → List ℕ → DocTree → Type 0) (x : DocTree) (c : CompTree) (y : DocTree) : Type 0 where
  m : List ℕ
  v : DocTree
  t : List ℕ
  d : CompTree
  n : List ℕ
  w : DocTree
  near_is : x ≡ alt m v
  comp_is : c ≡ alt_comp t d
  far_is : y ≡ alt n w
  related : R m v t d n w

alt_parts : (R : List ℕ → DocTree → List ℕ → CompTree → List ℕ → DocTree → Type 0) (x : DocTree) (c : CompTree) (y : DocTree) → AreAlternatives R x c y → AreAltParts R x c y
alt_parts R (alt m v) (alt_comp t d) (alt n w) h = record { m = m; v = v; t = t; d = d; n = n; w = w; near_is = refl; comp_is = refl; far_is = refl; related = h }
alt_parts R x c y h = absurd h

alt_triple : (arms : ArmTrees) (s : Side) (x : DocTree) (c : CompTree) (y : DocTree) → IsRelated (form_alt arms) s x c y → IsAltTriple arms s x c y
alt_triple arms Left x c y h =
    let a = alt_parts (IsInArm arms) x c y h.1 in record {
      near_tag = a.m;
      near_content = a.v;
      left_tag = a.t;
      comp = a.d;
      other_tag = a.n;
      other_content = a.w;
      near_is = a.near_is;
      comp_is = a.comp_is;
      far_is = a.far_is;
      near_has = subst (λ z. has (ty_alt (left_tags arms)) z ≡ true) a.near_is h.0.left_has;
      far_has = subst (λ z. has (ty_alt (right_tags arms)) z ≡ true) a.far_is h.0.right_has;
      related = arm_left arms a.m a.v a.t a.d a.n a.w a.related;
    }
alt_triple arms Right y c x h =
    let a = alt_parts (IsInArm arms) x c y h.1 in record {
      near_tag = a.n;
      near_content = a.w;
      left_tag = a.t;
      comp = a.d;
      other_tag = a.m;
      other_content = a.v;
      near_is = a.far_is;
      comp_is = a.comp_is;
      far_is = a.near_is;
      near_has = subst (λ z. has (ty_alt (right_tags arms)) z ≡ true) a.far_is h.0.right_has;
      far_has = subst (λ z. has (ty_alt (left_tags arms)) z ≡ true) a.near_is h.0.left_has;
      related = arm_right arms a.m a.v a.t a.d a.n a.w a.related;
    }

alt_related : (arms : ArmTrees) (s : Side) (i : List ℕ) (v : DocTree) (t : List ℕ) (c : CompTree) (j : List ℕ) (w : DocTree)
    → has (ty_alt (tags_on s arms)) (alt i v) ≡ true → has (ty_alt (tags_on (other s) arms)) (alt j w) ≡ true → ArmIs s arms i v t c j w
    → IsRelated (form_alt arms) s (alt i v) (alt_comp t c) (alt j w)
alt_related arms Left i v t c j w h k r = (record { left_has = h; comp_fits = arm_fits Left arms i v t c j w r; right_has = k }, from_left arms i v t c j w r)
alt_related arms Right i v t c j w h k r = (record { left_has = k; comp_fits = arm_fits Right arms i v t c j w r; right_has = h }, from_right arms j w t c i v r)

-- ---- what acts on alternatives

record Stays (fs : FieldTrees) (i : List ℕ) (v : DocTree) (p : PrimitiveTree) (x' : DocTree) : Type 0 where
  word : WordTree
  ty : TyTree
  content : DocTree
  is : p ≡ stay i word
  found : lookup_type fs i ≡ Some ty
  acts : act ty word v ≡ Ok content
  result : x' ≡ alt i content

record Switches (fs : FieldTrees) (i : List ℕ) (p : PrimitiveTree) (x' : DocTree) : Type 0 where
  to : List ℕ
  word : WordTree
  ty : TyTree
  content : DocTree
  is : p ≡ switch i to word
  found : lookup_type fs to ≡ Some ty
  acts : act ty word (initial ty) ≡ Ok content
  result : x' ≡ alt to content

present_ok : (o : Option TyTree) (go : TyTree → Result DocTree Cause) (x' : DocTree) → if_present o Tag go ≡ Ok x' → (t : TyTree) × (o ≡ Some t) × (go t ≡ Ok x')
present_ok None go x' h = cc
present_ok (Some t) go x' h = (t, refl, h)

stay_acted : (fs : FieldTrees) (i t : List ℕ) (v : DocTree) (w : WordTree) (x' : DocTree) → act_primitive (ty_alt fs) (stay t w) (alt i v) ≡ Ok x' → Stays fs i v (stay t w) x'
stay_acted fs i t v w x' e =
    let a = tag_ok (bytes_eq t i) (if_present (lookup_type fs i) Tag (λ ty. map_ok (alt i) (inner (act ty w v)))) x' e in
    let b = present_ok (lookup_type fs i) (λ ty. map_ok (alt i) (inner (act ty w v))) x' a.1 in
    let c = content_ok i (act b.0 w v) x' b.2 in
    record { word = w; ty = b.0; content = c.0; is = ap (λ z. stay z w) (bytes_eq-is t i a.0); found = b.1; acts = c.1; result = c.2 }

switch_acted : (fs : FieldTrees) (i m n : List ℕ) (v : DocTree) (w : WordTree) (x' : DocTree) → act_primitive (ty_alt fs) (switch m n w) (alt i v) ≡ Ok x' → Switches fs i (switch m n w) x'
switch_acted fs i m n v w x' e =
    let a = tag_ok (bytes_eq m i) (if_present (lookup_type fs n) Tag (λ ty. map_ok (alt n) (inner (act ty w (initial ty))))) x' e in
    let b = present_ok (lookup_type fs n) (λ ty. map_ok (alt n) (inner (act ty w (initial ty)))) x' a.1 in
    let c = content_ok n (act b.0 w (initial b.0)) x' b.2 in
    record { to = n; word = w; ty = b.0; content = c.0; is = ap (λ z. switch z n w) (bytes_eq-is m i a.0); found = b.1; acts = c.1; result = c.2 }

acts_on_alt : (fs : FieldTrees) (i : List ℕ) (v : DocTree) (p : PrimitiveTree) (x' : DocTree) → act_primitive (ty_alt fs) p (alt i v) ≡ Ok x' → Stays fs i v p x' ⊎ Switches fs i p x'
acts_on_alt fs i v (stay t w) x' e = inl (stay_acted fs i t v w x' e)
acts_on_alt fs i v (switch m n w) x' e = inr (switch_acted fs i m n v w x' e)
acts_on_alt fs i v (set_to a) x' e = cc
acts_on_alt fs i v (add n) x' e = cc
acts_on_alt fs i v (splice j k s) x' e = cc
acts_on_alt fs i v (at f w) x' e = cc
acts_on_alt fs i v (modify p w) x' e = cc
acts_on_alt fs i v (shape a) x' e = cc

-- the far words act
stay_acts : (fs : FieldTrees) (j : List ℕ) (w : DocTree) (u : WordTree) (ty : TyTree) (w' : DocTree) → lookup_type fs j ≡ Some ty → act ty u w ≡ Ok w' → act (ty_alt fs) (stay_word j u) (alt j w) ≡ Ok (alt j w')
stay_acts fs j w no_primitives ty w' e f = let same : w ≡ w' = cc in ap (λ z. Ok (alt j z)) same
stay_acts fs j w (more_primitives p u) ty w' e f = rw (bytes_eq-refl j) (rw e (rw f refl))

switch_acts : (fs : FieldTrees) (j k : List ℕ) (w : DocTree) (u : WordTree) (ty : TyTree) (w' : DocTree) → lookup_type fs k ≡ Some ty → act ty u (initial ty) ≡ Ok w' → act (ty_alt fs) (switch_word j k u) (alt j w) ≡ Ok (alt k w')
switch_acts fs j k w u ty w' e f = rw (bytes_eq-refl j) (rw e (rw f refl))

-- ---- the step

apart_on : (arms : ArmTrees) → AreLawfulAlternatives arms → (s : Side) → AreApart s arms
apart_on arms h Left = h.left_apart
apart_on arms h Right = h.right_apart

sound_on : (arms : ArmTrees) → AreLawfulAlternatives arms → (s : Side) → is_well_formed (ty_alt (tags_on s arms)) ≡ true
sound_on arms h Left = h.left_sound
sound_on arms h Right = h.right_sound

alt_type : (arms : ArmTrees) (s : Side) → type_on s (form_alt arms) ≡ ty_alt (tags_on s arms)
alt_type arms Left = refl
alt_type arms Right = refl

switch_row : (arms : ArmTrees) (s : Side) (t : List ℕ) (c : CompTree) (i n from : List ℕ) (u : WordTree) → far_tag arms s t i ≡ Some from
    → translate_one (form_alt arms) s (alt_comp t c) (switch i n u) ≡ translate_switch arms s from n u
switch_row arms s t c i n from u e = rw e refl

stay_carries : (arms : ArmTrees) → AreLawfulAlternatives arms → (s : Side) (a : List ℕ) (v : DocTree) (t : List ℕ) (c : CompTree) (j : List ℕ) (w : DocTree) (p : PrimitiveTree) (x' : DocTree)
    → has (ty_alt (tags_on s arms)) x' ≡ true → has (ty_alt (tags_on (other s) arms)) (alt j w) ≡ true → ArmIs s arms a v t c j w → Stays (tags_on s arms) a v p x'
    → Carries (form_alt arms) s x' (alt j w) (translate_one (form_alt arms) s (alt_comp t c) p)
stay_carries arms h s a v t c j w p x' near far_has related k =
    let q = stay_step s arms a v t c j w k.word k.ty k.content h.laws (apart_on arms h s) (apart_on arms h (other s)) h.left_apart related k.found k.acts in
    let acts = stay_acts (tags_on (other s) arms) j w q.word q.ty q.document q.typed q.acts in
    let far_new = has_act (ty_alt (tags_on (other s) arms)) (stay_word j q.word) (alt j w) (alt j q.document) (sound_on arms h (other s)) far_has acts in
    subst (λ z. Carries (form_alt arms) s x' (alt j w) (translate_one (form_alt arms) s (alt_comp t c) z)) (sym k.is)
    (subst (λ z. Carries (form_alt arms) s z (alt j w) (translate_one (form_alt arms) s (alt_comp t c) (stay a k.word))) (sym k.result) (record {
      word = stay_word j q.word;
      comp = alt_comp t q.comp;
      document = alt j q.document;
      carried = q.carried;
      acts = subst (λ z. act z (stay_word j q.word) (alt j w) ≡ Ok (alt j q.document)) (sym (alt_type arms (other s))) acts;
      consistent = alt_related arms s a k.content t q.comp j q.document (subst (λ z. has (ty_alt (tags_on s arms)) z ≡ true) k.result near) far_new q.related;
    }))

switch_carries : (arms : ArmTrees) → AreLawfulAlternatives arms → (s : Side) (a : List ℕ) (v : DocTree) (t : List ℕ) (c : CompTree) (j : List ℕ) (w : DocTree) (p : PrimitiveTree) (x' : DocTree)
    → has (ty_alt (tags_on s arms)) x' ≡ true → has (ty_alt (tags_on (other s) arms)) (alt j w) ≡ true → ArmIs s arms a v t c j w → Switches (tags_on s arms) a p x'
    → Carries (form_alt arms) s x' (alt j w) (translate_one (form_alt arms) s (alt_comp t c) p)
switch_carries arms h s a v t c j w p x' near far_has related k =
    let q = switch_step s arms j k.to k.word k.ty k.content h.laws (apart_on arms h (other s)) k.found k.acts in
    let acts = switch_acts (tags_on (other s) arms) j q.to w q.word q.ty q.document q.typed q.acts in
    let far_new = has_act (ty_alt (tags_on (other s) arms)) (switch_word j q.to q.word) (alt j w) (alt q.to q.document) (sound_on arms h (other s)) far_has acts in
    subst (λ z. Carries (form_alt arms) s x' (alt j w) (translate_one (form_alt arms) s (alt_comp t c) z)) (sym k.is)
    (subst (λ z. Carries (form_alt arms) s z (alt j w) (translate_one (form_alt arms) s (alt_comp t c) (switch a k.to k.word))) (sym k.result) (record {
      word = switch_word j q.to q.word;
      comp = alt_comp q.tag q.comp;
      document = alt q.to q.document;
      carried = switch_row arms s t c a k.to j k.word (far_tag_is s arms a v t c j w h.left_apart related) ∙ q.carried;
      acts = subst (λ z. act z (switch_word j q.to q.word) (alt j w) ≡ Ok (alt q.to q.document)) (sym (alt_type arms (other s))) acts;
      consistent = alt_related arms s k.to k.content q.tag q.comp q.to q.document (subst (λ z. has (ty_alt (tags_on s arms)) z ≡ true) k.result near) far_new q.related;
    }))

alt_carries : (arms : ArmTrees) → AreLawfulAlternatives arms → (s : Side) (a : List ℕ) (v : DocTree) (t : List ℕ) (c : CompTree) (j : List ℕ) (w : DocTree) (p : PrimitiveTree) (x' : DocTree)
    → has (ty_alt (tags_on s arms)) x' ≡ true → has (ty_alt (tags_on (other s) arms)) (alt j w) ≡ true → ArmIs s arms a v t c j w → Stays (tags_on s arms) a v p x' ⊎ Switches (tags_on s arms) a p x'
    → Carries (form_alt arms) s x' (alt j w) (translate_one (form_alt arms) s (alt_comp t c) p)
alt_carries arms h s a v t c j w p x' near far_has related (inl k) = stay_carries arms h s a v t c j w p x' near far_has related k
alt_carries arms h s a v t c j w p x' near far_has related (inr k) = switch_carries arms h s a v t c j w p x' near far_has related k

alt_step : (arms : ArmTrees) → AreLawfulAlternatives arms → (s : Side) (p : PrimitiveTree) (x : DocTree) (c : CompTree) (y x' : DocTree)
    → IsRelated (form_alt arms) s x c y → act_primitive (type_on s (form_alt arms)) p x ≡ Ok x' → Carries (form_alt arms) s x' y (translate_one (form_alt arms) s c p)
alt_step arms h s p x c y x' related e =
    let a = alt_triple arms s x c y related in
    let fs = tags_on s arms in
    let acts : act_primitive (ty_alt fs) p (alt a.near_tag a.near_content) ≡ Ok x' = subst (λ z. act_primitive (ty_alt fs) p z ≡ Ok x') a.near_is (subst (λ t. act_primitive t p x ≡ Ok x') (alt_type arms s) e) in
    let near = has_primitive (ty_alt fs) p (alt a.near_tag a.near_content) x' (sound_on arms h s) a.near_has acts in
    carries_at (form_alt arms) s p x' c (alt_comp a.left_tag a.comp) y (alt a.other_tag a.other_content) a.comp_is a.far_is
    (alt_carries arms h s a.near_tag a.near_content a.left_tag a.comp a.other_tag a.other_content p x' near a.far_has a.related (acts_on_alt fs a.near_tag a.near_content p x' acts))

alt_starts : (arms : ArmTrees) → AreLawfulAlternatives arms → IsConsistent (form_alt arms) (initial (left_type (form_alt arms))) (missing (form_alt arms)) (initial (right_type (form_alt arms)))
alt_starts no_arms h = let p = h.left_sound in cc
alt_starts (more_arms a b l arms) h =
    alt_related (more_arms a b l arms) Left a (initial (left_type l)) a (missing l) b (initial (right_type l))
    (has_initial (ty_alt (left_tags (more_arms a b l arms))) h.left_sound) (has_initial (ty_alt (right_tags (more_arms a b l arms))) h.right_sound)
    (inl (refl, refl, refl, h.laws.0.starts))

pub alternatives_laws : (arms : ArmTrees) → AreLawfulAlternatives arms → Laws (form_alt arms)
alternatives_laws arms h = record {
  sound = λ s. subst (λ t. is_well_formed t ≡ true) (sym (alt_type arms s)) (sound_on arms h s);
  starts = alt_starts arms h;
  step = alt_step arms h;
}
