-- A word in the content of an arm, and a switch to another arm: what the arm translates them to, and what it leaves.
use Rattle.std.proofs.Common.{◌≡◌, ◌∙◌, inl, inr, ℕ, Bool, true, false, List, Some, Ok, refl, sym, subst}
use Rattle.std.specs.Prelude.{bytes_eq, cond}
use Rattle.texts.specs.declared.side.Side.{Side}
use Rattle.texts.specs.declared.side.Side.TheVariants.{Left, Right}
use Rattle.texts.specs.Sides.{other}
use Rattle.texts.specs.Keys.{has_name}
use Rattle.doc_values.specs.Documents.{DocTree}
use Rattle.doc_values.specs.Types.{TyTree, are_distinct}
use Rattle.doc_values.specs.Typing.{lookup_type}
use Rattle.doc_values.specs.Initial.{initial}
use Rattle.edit_module.specs.Words.{WordTree}
use Rattle.edit_module.specs.Action.{act}
use Rattle.lens_forms.specs.Forms.{FormTree, ArmTrees, no_arms, more_arms}
use Rattle.lens_forms.specs.Typing.{left_arms}
use Rattle.lens_core.specs.Sides.{near, far, type_on}
use Rattle.lens_core.specs.Emitted.{stay_word, switch_word}
use Rattle.lens_core.specs.Complements.{CompTree, alt_comp, missing}
use Rattle.lens_core.specs.Translation.{translate, translate_stay, translate_switch, far_tag}
use Rattle.lens_core.specs.Laws.{IsRelated, Laws}
use Rattle.lens_core.proofs.LawsOfWords.{edits_carry, starts_on}
use Rattle.lens_core.proofs.LawsOfLeaves.{differs_back}
use Rattle.lens_branch.specs.Branches.{ArmLaws}
use Rattle.lens_core.proofs.NameTests.{not_that}
use Rattle.lens_core.proofs.Arms.{AreApart, ArmIs, arm_names, far_arm_name, far_head_apart, far_tag_type, far_tail_apart, first_type, head_apart, later_type, left_among, near_among, same_first, tag_type, tags_on, tail_apart}
use Rattle.std.proofs.lemmas.Option.{same_Some}
use Rattle.texts.proofs.Tests.{or_second, bytes_eq-is}
use Rattle.texts.proofs.KeyOrder.{bytes_eq-refl}

-- ---- a stay in an arm

pub record StayStep (s : Side) (arms : ArmTrees) (i : List ℕ) (v' : DocTree) (t : List ℕ) (c : CompTree) (j : List ℕ) (w : DocTree) (u : WordTree) : Type 0 where
  pub word : WordTree
  pub comp : CompTree
  pub document : DocTree
  pub ty : TyTree
  pub carried : translate_stay arms s t c i u ≡ Some (stay_word j word, alt_comp t comp)
  pub typed : lookup_type (tags_on (other s) arms) j ≡ Some ty
  pub acts : act ty word w ≡ Ok document
  pub related : ArmIs s arms i v' t comp j document

stay_translates : (s : Side) (a b : List ℕ) (l : FormTree) (arms : ArmTrees) (c : CompTree) (u w : WordTree) (d : CompTree) → translate l s c u ≡ Some (w, d)
    → translate_stay (more_arms a b l arms) s a c (near s a b) u ≡ Some (stay_word (far s a b) w, alt_comp a d)
stay_translates s a b l arms c u w d e = rw (bytes_eq-refl a) (rw (bytes_eq-refl (near s a b)) (rw e refl))

stay_here : (s : Side) (a b : List ℕ) (l : FormTree) (arms : ArmTrees) (v : DocTree) (c : CompTree) (w : DocTree) (u : WordTree) (v' : DocTree) → Laws l → IsRelated l s v c w → act (type_on s l) u v ≡ Ok v'
    → StayStep s (more_arms a b l arms) (near s a b) v' a c (far s a b) w u
stay_here s a b l arms v c w u v' laws k e =
    let q = edits_carry l laws s u v c w v' k e in record {
      word = q.word;
      comp = q.comp;
      document = q.document;
      ty = type_on (other s) l;
      carried = stay_translates s a b l arms c u q.word q.comp q.carried;
      typed = far_tag_type s a b l arms (far s a b) ∙ first_type (far s a b) (type_on (other s) l) (lookup_type (tags_on (other s) arms) (far s a b));
      acts = q.acts;
      related = inl (refl, refl, refl, q.consistent);
    }

pub stay_step : (s : Side) (arms : ArmTrees) (i : List ℕ) (v : DocTree) (t : List ℕ) (c : CompTree) (j : List ℕ) (w : DocTree) (u : WordTree) (ty : TyTree) (v' : DocTree)
    → ArmLaws arms → AreApart s arms → AreApart (other s) arms → are_distinct (left_arms arms) ≡ true → ArmIs s arms i v t c j w → lookup_type (tags_on s arms) i ≡ Some ty → act ty u v ≡ Ok v'
    → StayStep s arms i v' t c j w u
stay_step s no_arms i v t c j w u ty v' laws apart far_apart lefts h typed e = absurd h
stay_step s (more_arms a b l arms) i v t c j w u ty v' laws apart far_apart lefts (inl h) typed e =
    let at_near = subst (λ z. lookup_type (tags_on s (more_arms a b l arms)) z ≡ Some ty) h.0 typed in
    let same = same_Some (type_on s l) ty (sym (tag_type s a b l arms (near s a b) ∙ first_type (near s a b) (type_on s l) (lookup_type (tags_on s arms) (near s a b))) ∙ at_near) in
    let r = stay_here s a b l arms v c w u v' laws.0 h.3 (subst (λ z. act z u v ≡ Ok v') (sym same) e) in
    subst (λ z. StayStep s (more_arms a b l arms) z v' t c j w u) (sym h.0)
    (subst (λ z. StayStep s (more_arms a b l arms) (near s a b) v' z c j w u) (sym h.1)
    (subst (λ z. StayStep s (more_arms a b l arms) (near s a b) v' a c z w u) (sym h.2) r))
stay_step s (more_arms a b l arms) i v t c j w u ty v' laws apart far_apart lefts (inr h) typed e =
    let off = not_that i (near s a b) (arm_names s arms) (head_apart s a b l arms apart) (near_among s arms i v t c j w h) in
    let off_left = not_that t a (left_arms arms) (head_apart Left a b l arms lefts) (left_among s arms i v t c j w h) in
    let later = sym (tag_type s a b l arms i) ∙ typed in
    let here : lookup_type (tags_on s arms) i ≡ Some ty = subst (λ q. cond q (Some (type_on s l)) (lookup_type (tags_on s arms) i) ≡ Some ty) (differs_back i (near s a b) off) later in
    let q = stay_step s arms i v t c j w u ty v' laws.1 (tail_apart s a b l arms apart) (far_tail_apart s a b l arms far_apart) (tail_apart Left a b l arms lefts) h here e in
    let far_off = not_that j (far s a b) (arm_names (other s) arms) (far_head_apart s a b l arms far_apart) (far_among s arms i v t c j w h) in record {
      word = q.word;
      comp = q.comp;
      document = q.document;
      ty = q.ty;
      carried = past_arm s a b l arms t c i u (differs_back t a off_left) ∙ q.carried;
      typed = far_tag_type s a b l arms j ∙ later_type (far s a b) j (type_on (other s) l) (lookup_type (tags_on (other s) arms) j) q.ty (differs_back j (far s a b) far_off) q.typed;
      acts = q.acts;
      related = inr q.related;
    }
  where
    far_among : (s : Side) (arms : ArmTrees) (i : List ℕ) (v : DocTree) (t : List ℕ) (c : CompTree) (j : List ℕ) (w : DocTree) → ArmIs s arms i v t c j w → has_name j (arm_names (other s) arms) ≡ true
    far_among s no_arms i v t c j w h = absurd h
    far_among s (more_arms a b l arms) i v t c j w (inl h) = far_arm_name s a b l arms j ∙ same_first j (far s a b) (has_name j (arm_names (other s) arms)) h.2
    far_among s (more_arms a b l arms) i v t c j w (inr h) = far_arm_name s a b l arms j ∙ or_second (bytes_eq j (far s a b)) (has_name j (arm_names (other s) arms)) (far_among s arms i v t c j w h)

    past_arm : (s : Side) (a b : List ℕ) (l : FormTree) (arms : ArmTrees) (t : List ℕ) (c : CompTree) (i : List ℕ) (u : WordTree) → bytes_eq a t ≡ false → translate_stay (more_arms a b l arms) s t c i u ≡ translate_stay arms s t c i u
    past_arm s a b l arms t c i u e = rw e refl

-- the far tag of the arm of a consistent triple
pub far_tag_is : (s : Side) (arms : ArmTrees) (i : List ℕ) (v : DocTree) (t : List ℕ) (c : CompTree) (j : List ℕ) (w : DocTree) → are_distinct (left_arms arms) ≡ true → ArmIs s arms i v t c j w → far_tag arms s t i ≡ Some j
far_tag_is s no_arms i v t c j w lefts h = absurd h
far_tag_is s (more_arms a b l arms) i v t c j w lefts (inl h) = tag_here s a b l arms i t j h.0 h.1 h.2
  where
    tag_here : (s : Side) (a b : List ℕ) (l : FormTree) (arms : ArmTrees) (i t j : List ℕ) → i ≡ near s a b → t ≡ a → j ≡ far s a b → far_tag (more_arms a b l arms) s t i ≡ Some j
    tag_here s a b l arms i t j e f g = rw (e, f, g) (rw (bytes_eq-refl a) (rw (bytes_eq-refl (near s a b)) refl))
far_tag_is s (more_arms a b l arms) i v t c j w lefts (inr h) =
    let off_left = not_that t a (left_arms arms) (head_apart Left a b l arms lefts) (left_among s arms i v t c j w h) in
    tag_later s a b l arms i t (differs_back t a off_left) ∙ far_tag_is s arms i v t c j w (tail_apart Left a b l arms lefts) h
  where
    tag_later : (s : Side) (a b : List ℕ) (l : FormTree) (arms : ArmTrees) (i t : List ℕ) → bytes_eq a t ≡ false → far_tag (more_arms a b l arms) s t i ≡ far_tag arms s t i
    tag_later s a b l arms i t e = rw e refl

-- ---- a switch to an arm

pub record SwitchStep (s : Side) (arms : ArmTrees) (from i : List ℕ) (u : WordTree) (v' : DocTree) : Type 0 where
  pub word : WordTree
  pub tag : List ℕ
  pub comp : CompTree
  pub to : List ℕ
  pub document : DocTree
  pub ty : TyTree
  pub carried : translate_switch arms s from i u ≡ Some (switch_word from to word, alt_comp tag comp)
  pub among : has_name to (arm_names (other s) arms) ≡ true
  pub typed : lookup_type (tags_on (other s) arms) to ≡ Some ty
  pub acts : act ty word (initial ty) ≡ Ok document
  pub related : ArmIs s arms i v' tag comp to document

switch_translates : (s : Side) (a b : List ℕ) (l : FormTree) (arms : ArmTrees) (from : List ℕ) (u w : WordTree) (d : CompTree) → translate l s (missing l) u ≡ Some (w, d)
    → translate_switch (more_arms a b l arms) s from (near s a b) u ≡ Some (switch_word from (far s a b) w, alt_comp a d)
switch_translates s a b l arms from u w d e = rw (bytes_eq-refl (near s a b)) (rw e refl)

switch_here : (s : Side) (a b : List ℕ) (l : FormTree) (arms : ArmTrees) (from : List ℕ) (u : WordTree) (v' : DocTree) → Laws l → act (type_on s l) u (initial (type_on s l)) ≡ Ok v'
    → SwitchStep s (more_arms a b l arms) from (near s a b) u v'
switch_here s a b l arms from u v' laws e =
    let q = edits_carry l laws s u (initial (type_on s l)) (missing l) (initial (type_on (other s) l)) v' (starts_on l laws s) e in record {
      word = q.word;
      tag = a;
      comp = q.comp;
      to = far s a b;
      document = q.document;
      ty = type_on (other s) l;
      carried = switch_translates s a b l arms from u q.word q.comp q.carried;
      among = far_arm_name s a b l arms (far s a b) ∙ same_first (far s a b) (far s a b) (has_name (far s a b) (arm_names (other s) arms)) refl;
      typed = far_tag_type s a b l arms (far s a b) ∙ first_type (far s a b) (type_on (other s) l) (lookup_type (tags_on (other s) arms) (far s a b));
      acts = q.acts;
      related = inl (refl, refl, refl, q.consistent);
    }

pub switch_step : (s : Side) (arms : ArmTrees) (from i : List ℕ) (u : WordTree) (ty : TyTree) (v' : DocTree) → ArmLaws arms → AreApart (other s) arms → lookup_type (tags_on s arms) i ≡ Some ty → act ty u (initial ty) ≡ Ok v'
    → SwitchStep s arms from i u v'
switch_step Left no_arms from i u ty v' laws far_apart typed e = cc
switch_step Right no_arms from i u ty v' laws far_apart typed e = cc
switch_step s (more_arms a b l arms) from i u ty v' laws far_apart typed e =
    go (bytes_eq (near s a b) i) refl (sym (tag_type s a b l arms i) ∙ typed) (λ k. switch_step s arms from i u ty v' laws.1 (far_tail_apart s a b l arms far_apart) k e)
  where
    past_arm : bytes_eq (near s a b) i ≡ false → translate_switch (more_arms a b l arms) s from i u ≡ translate_switch arms s from i u
    past_arm f = rw f refl

    go : (q : Bool) → bytes_eq (near s a b) i ≡ q → cond q (Some (type_on s l)) (lookup_type (tags_on s arms) i) ≡ Some ty → (lookup_type (tags_on s arms) i ≡ Some ty → SwitchStep s arms from i u v')
        → SwitchStep s (more_arms a b l arms) from i u v'
    go true f k again =
        let same = same_Some (type_on s l) ty k in
        let acts = subst (λ t. act t u (initial t) ≡ Ok v') (sym same) e in
        subst (λ z. SwitchStep s (more_arms a b l arms) from z u v') (bytes_eq-is (near s a b) i f) (switch_here s a b l arms from u v' laws.0 acts)
    go false f k again =
        let q = again k in
        let far_off = not_that q.to (far s a b) (arm_names (other s) arms) (far_head_apart s a b l arms far_apart) q.among in record {
          word = q.word;
          tag = q.tag;
          comp = q.comp;
          to = q.to;
          document = q.document;
          ty = q.ty;
          carried = past_arm f ∙ q.carried;
          among = far_arm_name s a b l arms q.to ∙ or_second (bytes_eq q.to (far s a b)) (has_name q.to (arm_names (other s) arms)) q.among;
          typed = far_tag_type s a b l arms q.to ∙ later_type (far s a b) q.to (type_on (other s) l) (lookup_type (tags_on (other s) arms) q.to) q.ty (differs_back q.to (far s a b) far_off) q.typed;
          acts = q.acts;
          related = inr q.related;
        }
