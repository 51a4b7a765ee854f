-- Images through alternatives.
use Rattle.std.proofs.Common.{◌≡◌, ◌⊎◌, ◌∙◌, inl, inr, ℕ, Bool, true, false, List, Option, None, Some, refl, ap, sym, subst}
use Rattle.std.specs.Prelude.{◌||◌, bytes_eq, cond, option_map}
use Rattle.texts.specs.declared.side.Side.{Side}
use Rattle.texts.specs.declared.side.Side.TheVariants.{Left, Right}
use Rattle.texts.specs.Sides.{other}
use Rattle.texts.specs.Keys.{has_name}
use Rattle.doc_values.specs.Documents.{DocTree, alt}
use Rattle.doc_values.specs.Types.{TyTree, ty_alt, FieldTrees, are_distinct, is_well_formed}
use Rattle.doc_values.specs.Typing.{has, lookup_type}
use Rattle.doc_values.specs.Initial.{initial}
use Rattle.doc_values.proofs.InitialTypes.{has_initial}
use Rattle.lens_forms.specs.Forms.{FormTree, form_alt, ArmTrees, no_arms, more_arms, left_type, left_tags, right_type, right_tags}
use Rattle.lens_forms.specs.Typing.{left_arms, right_arms}
use Rattle.lens_core.specs.Sides.{near, far, type_on}
use Rattle.lens_core.specs.Complements.{CompTree, nil, then_comp, rec_comp, alt_comp, hold_comp, tags_comp, Fits, FitsArm}
use Rattle.lens_core.specs.Consistency.{AreAlternatives, IsInArm}
use Rattle.lens_core.specs.Laws.{IsRelated}
use Rattle.lens_core.proofs.LawsOfLeaves.{differs_back, across_far}
use Rattle.lens_core.proofs.NameTests.{not_that, fits_among}
use Rattle.lens_core.proofs.RecordFields.{lookup_type-more}
use Rattle.lens_core.proofs.Arms.{arm_names, tags_on, AreApart, ArmIs, arm_left, arm_right, from_left, from_right, left_among, head_apart, tail_apart}
use Rattle.law_images.specs.Patterns.{PatternTree, hole, unit_pattern, truth_pattern, int_pattern, text_pattern, pick_pattern, rec_pattern, alt_pattern, hold_pattern, Matches, HasSome}
use Rattle.law_images.specs.Image.{image, image_arm, arm_pattern}
use Rattle.law_images.specs.ImageLaws.{IsImage, ImageLaw}
use Rattle.law_images.proofs.SidesOfTriples.{near_has}
use Rattle.texts.proofs.Tests.{or_second, bytes_eq-is}
use Rattle.texts.proofs.KeyOrder.{bytes_eq-refl}

-- ---- the arms, seen from a side

tag_type : (s : Side) (a b : List ℕ) (l : FormTree) (arms : ArmTrees) (n : List ℕ) → lookup_type (tags_on s (more_arms a b l arms)) n ≡ cond (bytes_eq (near s a b) n) (Some (type_on s l)) (lookup_type (tags_on s arms) n)
tag_type Left a b l arms n = lookup_type-more a (left_type l) (left_tags arms) n
tag_type Right a b l arms n = lookup_type-more b (right_type l) (right_tags arms) n

tag_type_here : (s : Side) (a b : List ℕ) (l : FormTree) (arms : ArmTrees) → lookup_type (tags_on s (more_arms a b l arms)) (near s a b) ≡ Some (type_on s l)
tag_type_here s a b l arms = tag_type s a b l arms (near s a b) ∙ ap (λ z. cond z (Some (type_on s l)) (lookup_type (tags_on s arms) (near s a b))) (bytes_eq-refl (near s a b))

tag_type_later : (s : Side) (a b : List ℕ) (l : FormTree) (arms : ArmTrees) (n : List ℕ) (t : TyTree) → bytes_eq (near s a b) n ≡ false → lookup_type (tags_on s arms) n ≡ Some t
    → lookup_type (tags_on s (more_arms a b l arms)) n ≡ Some t
tag_type_later s a b l arms n t e h = tag_type s a b l arms n ∙ (ap (λ z. cond z (Some (type_on s l)) (lookup_type (tags_on s arms) n)) e ∙ h)

-- ---- the arm of the complement's tag

record IsArmOf (s : Side) (arms : ArmTrees) (t : List ℕ) (c : CompTree) : Type 0 where
  near_tag : List ℕ
  far_tag : List ℕ
  form : FormTree
  law : ImageLaw form
  formed : is_well_formed (type_on s form) ≡ true
  fit : Fits form c
  picks : (p : PatternTree) → image_arm arms s t c p ≡ arm_pattern near_tag far_tag (image form s c) p
  near_named : has_name near_tag (arm_names s arms) ≡ true
  far_named : has_name far_tag (arm_names (other s) arms) ≡ true
  near_type : lookup_type (tags_on s arms) near_tag ≡ Some (type_on s form)
  far_type : lookup_type (tags_on (other s) arms) far_tag ≡ Some (type_on (other s) form)
  inside : (i : List ℕ) (v : DocTree) (j : List ℕ) (w : DocTree) → ArmIs s arms i v t c j w → (i ≡ near_tag) × (j ≡ far_tag) × IsRelated form s v c w
  back : (v w : DocTree) → IsRelated form s v c w → ArmIs s arms near_tag v t c far_tag w

-- the lens of each arm has the law, and well-formed types
abbrev pub ArmImages : ArmTrees → Type 0
ArmImages no_arms = Unit {0}
ArmImages (more_arms a b l arms) = ((s : Side) → is_well_formed (type_on s l) ≡ true) × ImageLaw l × ArmImages arms

name_here : (s : Side) (a b : List ℕ) (l : FormTree) (arms : ArmTrees) → has_name (near s a b) (arm_names s (more_arms a b l arms)) ≡ true
name_here Left a b l arms = rw (bytes_eq-refl a) refl
name_here Right a b l arms = rw (bytes_eq-refl b) refl

name_later : (s : Side) (a b : List ℕ) (l : FormTree) (arms : ArmTrees) (n : List ℕ) → has_name n (arm_names s arms) ≡ true → has_name n (arm_names s (more_arms a b l arms)) ≡ true
name_later Left a b l arms n h = or_second (bytes_eq n a) (has_name n (left_arms arms)) h
name_later Right a b l arms n h = or_second (bytes_eq n b) (has_name n (right_arms arms)) h

arm_here : (a b : List ℕ) (l : FormTree) (arms : ArmTrees) → ((s : Side) → is_well_formed (type_on s l) ≡ true) → ImageLaw l → (s : Side) (t : List ℕ) (c : CompTree)
    → has_name a (left_arms arms) ≡ false → bytes_eq t a ≡ true → Fits l c → IsArmOf s (more_arms a b l arms) t c
arm_here a b l arms wf law s t c apart test fit = record {
  near_tag = near s a b;
  far_tag = far s a b;
  form = l;
  law = law;
  formed = wf s;
  fit = fit;
  picks = λ p. ap (λ z. cond z (arm_pattern (near s a b) (far s a b) (image l s c) p) (image_arm arms s t c p)) test;
  near_named = name_here s a b l arms;
  far_named = subst (λ z. has_name z (arm_names (other s) (more_arms a b l arms)) ≡ true) (across_far s a b) (name_here (other s) a b l arms);
  near_type = tag_type_here s a b l arms;
  far_type = subst (λ z. lookup_type (tags_on (other s) (more_arms a b l arms)) z ≡ Some (type_on (other s) l)) (across_far s a b) (tag_type_here (other s) a b l arms);
  inside = inside;
  back = λ v w k. inl (refl, bytes_eq-is t a test, refl, k);
}
  where
    inside : (i : List ℕ) (v : DocTree) (j : List ℕ) (w : DocTree) → ArmIs s (more_arms a b l arms) i v t c j w → (i ≡ near s a b) × (j ≡ far s a b) × IsRelated l s v c w
    inside i v j w (inl h) = (h.0, h.2, h.3)
    inside i v j w (inr h) = let here = subst (λ (z : List ℕ). has_name z (left_arms arms) ≡ true) (bytes_eq-is t a test) (left_among s arms i v t c j w h) in cc

arm_later : (a b : List ℕ) (l : FormTree) (arms : ArmTrees) (s : Side) (t : List ℕ) (c : CompTree) → AreApart s (more_arms a b l arms) → AreApart (other s) (more_arms a b l arms)
    → bytes_eq t a ≡ false → IsArmOf s arms t c → IsArmOf s (more_arms a b l arms) t c
arm_later a b l arms s t c apart apart' test r = record {
  near_tag = r.near_tag;
  far_tag = r.far_tag;
  form = r.form;
  law = r.law;
  formed = r.formed;
  fit = r.fit;
  picks = λ p. ap (λ z. cond z (arm_pattern (near s a b) (far s a b) (image l s c) p) (image_arm arms s t c p)) test ∙ r.picks p;
  near_named = name_later s a b l arms r.near_tag r.near_named;
  far_named = name_later (other s) a b l arms r.far_tag r.far_named;
  near_type = tag_type_later s a b l arms r.near_tag (type_on s r.form) (differs_back r.near_tag (near s a b) (not_that r.near_tag (near s a b) (arm_names s arms) (head_apart s a b l arms apart) r.near_named)) r.near_type;
  far_type = tag_type_later (other s) a b l arms r.far_tag (type_on (other s) r.form)
      (differs_back r.far_tag (near (other s) a b) (not_that r.far_tag (near (other s) a b) (arm_names (other s) arms) (head_apart (other s) a b l arms apart') r.far_named)) r.far_type;
  inside = inside;
  back = λ v w k. inr (r.back v w k);
}
  where
    inside : (i : List ℕ) (v : DocTree) (j : List ℕ) (w : DocTree) → ArmIs s (more_arms a b l arms) i v t c j w → (i ≡ r.near_tag) × (j ≡ r.far_tag) × IsRelated r.form s v c w
    inside i v j w (inl h) = let here = subst (λ (z : List ℕ). bytes_eq z a ≡ false) h.1 test in let there = bytes_eq-refl a in cc
    inside i v j w (inr h) = r.inside i v j w h

both_apart : (s : Side) (arms : ArmTrees) → AreApart s arms → AreApart (other s) arms → AreApart Left arms
both_apart Left arms h k = h
both_apart Right arms h k = k

-- the first arm, or one of the others
choose : (a b : List ℕ) (l : FormTree) (arms : ArmTrees) → ArmImages (more_arms a b l arms) → (s : Side) (t : List ℕ) (c : CompTree) → AreApart s (more_arms a b l arms) → AreApart (other s) (more_arms a b l arms)
    → (FitsArm arms t c → IsArmOf s arms t c) → (d : Bool) → bytes_eq t a ≡ d → FitsArm (more_arms a b l arms) t c → IsArmOf s (more_arms a b l arms) t c
choose a b l arms laws s t c h k again true e (inl f) = arm_here a b l arms laws.0 laws.1 s t c (head_apart Left a b l arms (both_apart s (more_arms a b l arms) h k)) e f.1
choose a b l arms laws s t c h k again true e (inr f) =
    let none = head_apart Left a b l arms (both_apart s (more_arms a b l arms) h k) in
    let there = subst (λ (z : List ℕ). has_name z (left_arms arms) ≡ true) (bytes_eq-is t a e) (fits_among arms t c f) in
    cc
choose a b l arms laws s t c h k again false e (inl f) = let same = subst (λ (z : List ℕ). bytes_eq z a ≡ false) f.0 e in let there = bytes_eq-refl a in cc
choose a b l arms laws s t c h k again false e (inr f) = arm_later a b l arms s t c h k e (again f)

arm_of : (arms : ArmTrees) → ArmImages arms → (s : Side) (t : List ℕ) (c : CompTree) → AreApart s arms → AreApart (other s) arms → FitsArm arms t c → IsArmOf s arms t c
arm_of no_arms laws s t c h k fit = absurd fit
arm_of (more_arms a b l arms) laws s t c h k fit =
    choose a b l arms laws s t c h k (λ f. arm_of arms laws.2 s t c (tail_apart s a b l arms h) (tail_apart (other s) a b l arms k) f) (bytes_eq t a) refl fit

-- ---- a triple

record IsArmTriple (s : Side) (arms : ArmTrees) (v : DocTree) (t : List ℕ) (c : CompTree) (w : DocTree) : Type 0 where
  near_tag : List ℕ
  far_tag : List ℕ
  near_doc : DocTree
  far_doc : DocTree
  near_is : v ≡ alt near_tag near_doc
  far_is : w ≡ alt far_tag far_doc
  arm : ArmIs s arms near_tag near_doc t c far_tag far_doc

triple_left : (arms : ArmTrees) (v : DocTree) (t : List ℕ) (c : CompTree) (w : DocTree) → AreAlternatives (IsInArm arms) v (alt_comp t c) w → IsArmTriple Left arms v t c w
triple_left arms (alt m x) t c (alt n y) h = record { near_tag = m; far_tag = n; near_doc = x; far_doc = y; near_is = refl; far_is = refl; arm = arm_left arms m x t c n y h }
triple_left arms v t c w h = absurd h

triple_right : (arms : ArmTrees) (v : DocTree) (t : List ℕ) (c : CompTree) (w : DocTree) → AreAlternatives (IsInArm arms) v (alt_comp t c) w → IsArmTriple Right arms w t c v
triple_right arms (alt m x) t c (alt n y) h = record { near_tag = n; far_tag = m; near_doc = y; far_doc = x; near_is = refl; far_is = refl; arm = arm_right arms m x t c n y h }
triple_right arms v t c w h = absurd h

arm_triple : (s : Side) (arms : ArmTrees) (v : DocTree) (t : List ℕ) (c : CompTree) (w : DocTree) → IsRelated (form_alt arms) s v (alt_comp t c) w → IsArmTriple s arms v t c w
arm_triple Left arms v t c w h = triple_left arms v t c w h.1
arm_triple Right arms v t c w h = triple_right arms w t c v h.1

tag_has : (fs : FieldTrees) (n : List ℕ) (v : DocTree) (t : TyTree) → lookup_type fs n ≡ Some t → has t v ≡ true → has (ty_alt fs) (alt n v) ≡ true
tag_has fs n v t e h = subst (λ (o : Option TyTree). elim o [ None ↦ false | Some u ↦ has u v ] ≡ true) (sym e) h

has_tag : (fs : FieldTrees) (n : List ℕ) (v : DocTree) (t : TyTree) → lookup_type fs n ≡ Some t → has (ty_alt fs) (alt n v) ≡ true → has t v ≡ true
has_tag fs n v t e h = subst (λ (o : Option TyTree). elim o [ None ↦ false | Some u ↦ has u v ] ≡ true) e h

alt_has : (s : Side) (arms : ArmTrees) (n : List ℕ) (v : DocTree) (t : TyTree) → lookup_type (tags_on s arms) n ≡ Some t → has t v ≡ true → has (type_on s (form_alt arms)) (alt n v) ≡ true
alt_has Left arms n v t e h = tag_has (left_tags arms) n v t e h
alt_has Right arms n v t e h = tag_has (right_tags arms) n v t e h

has_alt : (s : Side) (arms : ArmTrees) (n : List ℕ) (v : DocTree) (t : TyTree) → lookup_type (tags_on s arms) n ≡ Some t → has (type_on s (form_alt arms)) (alt n v) ≡ true → has t v ≡ true
has_alt Left arms n v t e h = has_tag (left_tags arms) n v t e h
has_alt Right arms n v t e h = has_tag (right_tags arms) n v t e h

alt_related : (s : Side) (arms : ArmTrees) (i : List ℕ) (v : DocTree) (t : List ℕ) (c : CompTree) (j : List ℕ) (w : DocTree) → has (type_on s (form_alt arms)) (alt i v) ≡ true → FitsArm arms t c
    → has (type_on (other s) (form_alt arms)) (alt j w) ≡ true → ArmIs s arms i v t c j w → IsRelated (form_alt arms) s (alt i v) (alt_comp t c) (alt j w)
alt_related Left arms i v t c j w a f b h = (record { left_has = a; comp_fits = f; right_has = b }, from_left arms i v t c j w h)
alt_related Right arms i v t c j w a f b h = (record { left_has = b; comp_fits = f; right_has = a }, from_right arms j w t c i v h)

alt_same : (i j : List ℕ) (v w : DocTree) → alt i v ≡ alt j w → (i ≡ j) × (v ≡ w)
alt_same i j v w e = (cc, cc)

-- ---- through the arm

module _ (s : Side) (arms : ArmTrees) (t : List ℕ) (c : CompTree) (fit : FitsArm arms t c) (r : IsArmOf s arms t c) where
  -- the content's pattern, and that of the whole
  content_given : (p inner : PatternTree) → ((v : DocTree) → Matches p (alt r.near_tag v) → Matches inner v) → ((v : DocTree) → Matches inner v → Matches p (alt r.near_tag v))
      → (o : Option PatternTree) → IsImage r.form s c inner o → IsImage (form_alt arms) s (alt_comp t c) p (option_map (alt_pattern r.far_tag) o)
  content_given p inner down up None a = λ v w m h.
      let g = arm_triple s arms v t c w h in
      let k = r.inside g.near_tag g.near_doc g.far_tag g.far_doc g.arm in
      a g.near_doc g.far_doc (down g.near_doc (subst (λ z. Matches p (alt z g.near_doc)) k.0 (subst (Matches p) g.near_is m))) k.2
  content_given p inner down up (Some q) a = record {
    some_doc = (alt r.far_tag a.some_doc.0, alt_has (other s) arms r.far_tag a.some_doc.0 (type_on (other s) r.form) r.far_type a.some_doc.1, (a.some_doc.0, refl, a.some_doc.2));
    into = λ v w m h.
        let g = arm_triple s arms v t c w h in
        let k = r.inside g.near_tag g.near_doc g.far_tag g.far_doc g.arm in
        (g.far_doc, g.far_is ∙ ap (λ z. alt z g.far_doc) k.1, a.into g.near_doc g.far_doc (down g.near_doc (subst (λ z. Matches p (alt z g.near_doc)) k.0 (subst (Matches p) g.near_is m))) k.2);
    onto = λ w h m.
        let h' = subst (λ z. has (type_on (other s) (form_alt arms)) z ≡ true) m.1 h in
        let inside = has_alt (other s) arms r.far_tag m.0 (type_on (other s) r.form) r.far_type h' in
        let x = a.onto m.0 inside m.2 in (
          alt r.near_tag x.0,
          up x.0 x.1,
          subst (λ z. IsRelated (form_alt arms) s (alt r.near_tag x.0) (alt_comp t c) z) (sym m.1)
              (alt_related s arms r.near_tag x.0 t c r.far_tag m.0 (alt_has s arms r.near_tag x.0 (type_on s r.form) r.near_type (near_has r.form s x.0 c m.0 x.2)) fit h' (r.back x.0 m.0 x.2)),
        );
  }

  -- a pattern that no document with the near tag is in
  no_content : (p : PatternTree) → ((v : DocTree) → Matches p (alt r.near_tag v) → ⊥) → IsImage (form_alt arms) s (alt_comp t c) p None
  no_content p none = λ v w m h.
      let g = arm_triple s arms v t c w h in
      let k = r.inside g.near_tag g.near_doc g.far_tag g.far_doc g.arm in
      none g.near_doc (subst (λ z. Matches p (alt z g.near_doc)) k.0 (subst (Matches p) g.near_is m))

  tag_given : (i : List ℕ) (p : PatternTree) → HasSome (type_on s (form_alt arms)) (alt_pattern i p) → (b : Bool) → bytes_eq i r.near_tag ≡ b
      → IsImage (form_alt arms) s (alt_comp t c) (alt_pattern i p) (cond b (option_map (alt_pattern r.far_tag) (image r.form s c p)) None)
  tag_given i p some false e = no_content (alt_pattern i p) (λ v m.
      let same = (alt_same r.near_tag i v m.0 m.1).0 in
      let here = subst (λ (z : List ℕ). bytes_eq z r.near_tag ≡ false) (sym same) e in
      let there = bytes_eq-refl r.near_tag in
      cc)
  tag_given i p some true e =
      let same = bytes_eq-is i r.near_tag e in
      let h = subst (λ z. has (type_on s (form_alt arms)) (alt z some.2.0) ≡ true) same (subst (λ z. has (type_on s (form_alt arms)) z ≡ true) some.2.1 some.1) in
      content_given (alt_pattern i p) p
      (λ v m. subst (Matches p) (sym (alt_same r.near_tag i v m.0 m.1).1) m.2)
      (λ v m. (v, ap (λ z. alt z v) (sym same), m))
      (image r.form s c p) (r.law s c p r.fit (some.2.0, has_alt s arms r.near_tag some.2.0 (type_on s r.form) r.near_type h, some.2.2))

  arm_given : (p : PatternTree) → HasSome (type_on s (form_alt arms)) p → IsImage (form_alt arms) s (alt_comp t c) p (arm_pattern r.near_tag r.far_tag (image r.form s c) p)
  arm_given hole some = content_given hole hole (λ v m. tt) (λ v m. tt) (image r.form s c hole) (r.law s c hole r.fit (initial (type_on s r.form), has_initial (type_on s r.form) r.formed, tt))
  arm_given (alt_pattern i p) some = tag_given i p some (bytes_eq i r.near_tag) refl
  arm_given unit_pattern some = no_content unit_pattern (λ v m. cc)
  arm_given (truth_pattern b) some = no_content (truth_pattern b) (λ v m. cc)
  arm_given (int_pattern b) some = no_content (int_pattern b) (λ v m. cc)
  arm_given (text_pattern b) some = no_content (text_pattern b) (λ v m. cc)
  arm_given (pick_pattern b) some = no_content (pick_pattern b) (λ v m. cc)
  arm_given (rec_pattern b) some = no_content (rec_pattern b) (λ v m. let e = m.1 in cc)
  arm_given (hold_pattern a b) some = no_content (hold_pattern a b) (λ v m. let e = m.1 in cc)

alt_side : (arms : ArmTrees) → ArmImages arms → (s : Side) → AreApart s arms → AreApart (other s) arms → (t : List ℕ) (c : CompTree) (p : PatternTree) → FitsArm arms t c
    → HasSome (type_on s (form_alt arms)) p → IsImage (form_alt arms) s (alt_comp t c) p (image_arm arms s t c p)
alt_side arms laws s h k t c p fit some =
    let r = arm_of arms laws s t c h k fit in
    subst (λ o. IsImage (form_alt arms) s (alt_comp t c) p o) (sym (r.picks p)) (arm_given s arms t c fit r p some)

pub alt_images : (arms : ArmTrees) → are_distinct (left_arms arms) ≡ true → are_distinct (right_arms arms) ≡ true → ArmImages arms → ImageLaw (form_alt arms)
alt_images arms h k laws Left (alt_comp t c) p fit some = alt_side arms laws Left h k t c p fit some
alt_images arms h k laws Right (alt_comp t c) p fit some = alt_side arms laws Right k h t c p fit some
alt_images arms h k laws s nil p fit some = absurd fit
alt_images arms h k laws s (then_comp c d) p fit some = absurd fit
alt_images arms h k laws s (rec_comp cs) p fit some = absurd fit
alt_images arms h k laws s (hold_comp r cs) p fit some = absurd fit
alt_images arms h k laws s (tags_comp ts) p fit some = absurd fit
