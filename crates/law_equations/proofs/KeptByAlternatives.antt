-- Alternatives keep the equations.
use Rattle.std.proofs.Common.{◌≡◌, refl, sym, ap, ap₂, subst, Bool, true, false, not, ◌&&◌, ◌||◌, cond, Option, None, Some, option_map, List, ℕ, bytes_eq, ◌∙◌}
use Rattle.std.specs.Prelude.{option_and_then}
use Rattle.std.proofs.lemmas.Slice.Eq.{bytes_eq-Decides}
use Rattle.hold_shapes.specs.declared.edit.Place.{Place}
use Rattle.texts.specs.declared.side.Side.{Side}
use Rattle.texts.specs.Keys.{has_name}
use Rattle.doc_values.specs.Types.{are_distinct}
use Rattle.edit_module.specs.Words.{PrimitiveTree, set, add, splice, at, stay, switch, modify, shape, WordTree, joined}
use Rattle.lens_forms.specs.Forms.{form_alt, ArmTrees, no_arms, more_arms}
use Rattle.lens_forms.specs.Typing.{left_arms}
use Rattle.lens_core.specs.Complements.{CompTree, alt_comp, missing}
use Rattle.lens_core.specs.Sides.{near, far}
use Rattle.lens_core.specs.Emitted.{stay_word, switch_word, behind, one_by_one}
use Rattle.lens_core.specs.Translation.{Translated, far_tag, in_arm, to_arm, translate_one, translate_stay, translate_switch}
use Rattle.law_equations.specs.Alike.{KeepsEquations, ArmsKeepEquations}
use Rattle.law_equations.proofs.Glue.{normalized, normalized_one}
use Rattle.law_equations.proofs.Normals.{merge-cases, normalized-again}
use Rattle.law_equations.proofs.EmittedAlike.{stay_word-normalized, stay_word-joined, switch_word-normalized, switch_word-joined}
use Rattle.law_equations.proofs.Alikes.{in_normal_form, same-parts, in_order, in_order-same, in_order-given, in_parts, form-keeps, owed-form}
use Rattle.texts.proofs.Tests.{or_second}
use Rattle.texts.proofs.KeyOrder.{bytes_eq-refl}

-- ---- a word in an arm

in_arm-same : (t m : List ℕ) (o p : Option Translated) → in_normal_form o ≡ in_normal_form p → in_normal_form (option_map (in_arm t m) o) ≡ in_normal_form (option_map (in_arm t m) p)
in_arm-same t m None None e = refl
in_arm-same t m None (Some q) e = cc
in_arm-same t m (Some q) None e = cc
in_arm-same t m (Some q) (Some r) e = ap₂ (λ w c. Some (w, alt_comp t c)) (stay_word-normalized m q.0 r.0 (same-parts q r e).0) (same-parts q r e).1

to_arm-same : (from t m : List ℕ) (o p : Option Translated) → in_normal_form o ≡ in_normal_form p → in_normal_form (option_map (to_arm from t m) o) ≡ in_normal_form (option_map (to_arm from t m) p)
to_arm-same from t m None None e = refl
to_arm-same from t m None (Some q) e = cc
to_arm-same from t m (Some q) None e = cc
to_arm-same from t m (Some q) (Some r) e = ap₂ (λ w c. Some (w, alt_comp t c)) (switch_word-normalized from m q.0 r.0 (same-parts q r e).0) (same-parts q r e).1

in_arm-order : (t m : List ℕ) (o : Option Translated) (k next : CompTree → Option Translated) → ((c : CompTree) → next (alt_comp t c) ≡ option_map (in_arm t m) (k c))
    → in_normal_form (option_map (in_arm t m) (in_order o k)) ≡ in_normal_form (in_order (option_map (in_arm t m) o) next)
in_arm-order t m None k next h = refl
in_arm-order t m (Some r) k next h = rw (h r.1) (go (k r.1))
  where
    go : (o : Option Translated) → in_normal_form (option_map (in_arm t m) (option_map (behind r.0) o)) ≡ in_normal_form (option_map (behind (stay_word m r.0)) (option_map (in_arm t m) o))
    go None = refl
    go (Some q) = ap (λ w. Some (w, alt_comp t q.1)) (stay_word-joined m r.0 q.0)

to_arm-order : (from t m : List ℕ) (o : Option Translated) (k next : CompTree → Option Translated) → ((c : CompTree) → next (alt_comp t c) ≡ option_map (in_arm t m) (k c))
    → in_normal_form (option_map (to_arm from t m) (in_order o k)) ≡ in_normal_form (in_order (option_map (to_arm from t m) o) next)
to_arm-order from t m None k next h = refl
to_arm-order from t m (Some r) k next h = rw (h r.1) (go (k r.1))
  where
    go : (o : Option Translated) → in_normal_form (option_map (to_arm from t m) (option_map (behind r.0) o)) ≡ in_normal_form (option_map (behind (switch_word from m r.0)) (option_map (in_arm t m) o))
    go None = refl
    go (Some q) = ap (λ w. Some (w, alt_comp t q.1)) (switch_word-joined from m r.0 q.0)

-- ---- in the arm of the complement

stay-same : (arms : ArmTrees) → ArmsKeepEquations arms → (side : Side) (t : List ℕ) (c : CompTree) (m : List ℕ) (u w : WordTree) → normalized u ≡ normalized w
    → in_normal_form (translate_stay arms side t c m u) ≡ in_normal_form (translate_stay arms side t c m w)
stay-same no_arms h side t c m u w e = refl
stay-same (more_arms a b l arms) h side t c m u w e = go (bytes_eq a t) (bytes_eq (near side a b) m) (stay-same arms h.1 side t c m u w e)
  where
    go : (x y : Bool) → in_normal_form (translate_stay arms side t c m u) ≡ in_normal_form (translate_stay arms side t c m w)
        → in_normal_form (cond x (cond y (option_map (in_arm a (far side a b)) (one_by_one (translate_one l side) c u)) None) (translate_stay arms side t c m u))
        ≡ in_normal_form (cond x (cond y (option_map (in_arm a (far side a b)) (one_by_one (translate_one l side) c w)) None) (translate_stay arms side t c m w))
    go true true i = in_arm-same a (far side a b) (one_by_one (translate_one l side) c u) (one_by_one (translate_one l side) c w) (form-keeps l h.0 side c u w e)
    go true false i = refl
    go false y i = i

-- a Stay at a complement
abbrev stay_at : ArmTrees → Side → List ℕ → WordTree → CompTree → Option Translated
stay_at arms side m v (alt_comp t c) = translate_stay arms side t c m v
stay_at arms side m v _ = None

-- the tag stays
stay-tag : (arms : ArmTrees) (side : Side) (t : List ℕ) (c : CompTree) (m : List ℕ) (u : WordTree) (r : Translated) → translate_stay arms side t c m u ≡ Some r → (d : CompTree) × (r.1 ≡ alt_comp t d)
stay-tag no_arms side t c m u r e = cc
stay-tag (more_arms a b l arms) side t c m u r e = go (bytes_eq a t) refl (bytes_eq (near side a b) m) (one_by_one (translate_one l side) c u) (λ i. stay-tag arms side t c m u r i) e
  where
    go : (x : Bool) → bytes_eq a t ≡ x → (y : Bool) (o : Option Translated) → (translate_stay arms side t c m u ≡ Some r → (d : CompTree) × (r.1 ≡ alt_comp t d))
        → cond x (cond y (option_map (in_arm a (far side a b)) o) None) (translate_stay arms side t c m u) ≡ Some r → (d : CompTree) × (r.1 ≡ alt_comp t d)
    go true f true None h e = cc
    go true f true (Some q) h e =
        let same : in_arm a (far side a b) q ≡ r = cc in
        (q.1, sym (ap (λ z. z.1) same) ∙ ap (λ z. alt_comp z q.1) ((bytes_eq-Decides a t).0 f))
    go true f false o h e = cc
    go false f y o h e = h e

stay-two : (arms : ArmTrees) → ArmsKeepEquations arms → (side : Side) (t : List ℕ) (c : CompTree) (m : List ℕ) (u v : WordTree)
    → in_normal_form (translate_stay arms side t c m (joined u v)) ≡ in_normal_form (in_order (translate_stay arms side t c m u) (λ d. stay_at arms side m v d))
stay-two no_arms h side t c m u v = refl
stay-two (more_arms a b l arms) h side t c m u v = go (bytes_eq a t) refl (bytes_eq (near side a b) m) refl (stay-two arms h.1 side t c m u v)
  where
    later : bytes_eq a t ≡ false → (r : Translated) → translate_stay arms side t c m u ≡ Some r → stay_at arms side m v r.1 ≡ stay_at (more_arms a b l arms) side m v r.1
    later e r i =
        let s = stay-tag arms side t c m u r i in
        subst (λ d. stay_at arms side m v d ≡ stay_at (more_arms a b l arms) side m v d) (sym s.1) (rw e refl)

    go : (x : Bool) → bytes_eq a t ≡ x → (y : Bool) → bytes_eq (near side a b) m ≡ y
        → in_normal_form (translate_stay arms side t c m (joined u v)) ≡ in_normal_form (in_order (translate_stay arms side t c m u) (λ d. stay_at arms side m v d))
        → in_normal_form (cond x (cond y (option_map (in_arm a (far side a b)) (one_by_one (translate_one l side) c (joined u v))) None) (translate_stay arms side t c m (joined u v)))
        ≡ in_normal_form (in_order (cond x (cond y (option_map (in_arm a (far side a b)) (one_by_one (translate_one l side) c u)) None) (translate_stay arms side t c m u))
        (λ d. stay_at (more_arms a b l arms) side m v d))
    go true e true f i =
        ap (λ o. in_normal_form (option_map (in_arm a (far side a b)) o)) (in_parts (translate_one l side) c u v)
        ∙ in_arm-order a (far side a b) (one_by_one (translate_one l side) c u) (λ d. one_by_one (translate_one l side) d v) (λ d. stay_at (more_arms a b l arms) side m v d)
        (λ d. rw (bytes_eq-refl a, f) refl)
    go true e false f i = refl
    go false e y f i =
        i ∙ in_order-given (translate_stay arms side t c m u) (translate_stay arms side t c m u) (λ d. stay_at arms side m v d) (λ d. stay_at (more_arms a b l arms) side m v d) refl
        (λ r j. ap in_normal_form (later e r j))

-- ---- in another arm

switch-same : (arms : ArmTrees) → ArmsKeepEquations arms → (side : Side) (from n : List ℕ) (u w : WordTree) → normalized u ≡ normalized w
    → in_normal_form (translate_switch arms side from n u) ≡ in_normal_form (translate_switch arms side from n w)
switch-same no_arms h side from n u w e = refl
switch-same (more_arms a b l arms) h side from n u w e = go (bytes_eq (near side a b) n) (switch-same arms h.1 side from n u w e)
  where
    go : (y : Bool) → in_normal_form (translate_switch arms side from n u) ≡ in_normal_form (translate_switch arms side from n w)
        → in_normal_form (cond y (option_map (to_arm from a (far side a b)) (one_by_one (translate_one l side) (missing l) u)) (translate_switch arms side from n u))
        ≡ in_normal_form (cond y (option_map (to_arm from a (far side a b)) (one_by_one (translate_one l side) (missing l) w)) (translate_switch arms side from n w))
    go true i = to_arm-same from a (far side a b) (one_by_one (translate_one l side) (missing l) u) (one_by_one (translate_one l side) (missing l) w) (form-keeps l h.0 side (missing l) u w e)
    go false i = i

-- the tag is that of an arm
switch-tag : (arms : ArmTrees) (side : Side) (from n : List ℕ) (u : WordTree) (r : Translated) → translate_switch arms side from n u ≡ Some r
    → (t : List ℕ) × (d : CompTree) × (r.1 ≡ alt_comp t d) × (has_name t (left_arms arms) ≡ true)
switch-tag no_arms side from n u r e = cc
switch-tag (more_arms a b l arms) side from n u r e = go (bytes_eq (near side a b) n) (one_by_one (translate_one l side) (missing l) u) (λ i. switch-tag arms side from n u r i) e
  where
    go : (y : Bool) (o : Option Translated) → (translate_switch arms side from n u ≡ Some r → (t : List ℕ) × (d : CompTree) × (r.1 ≡ alt_comp t d) × (has_name t (left_arms arms) ≡ true))
        → cond y (option_map (to_arm from a (far side a b)) o) (translate_switch arms side from n u) ≡ Some r
        → (t : List ℕ) × (d : CompTree) × (r.1 ≡ alt_comp t d) × ((bytes_eq t a || has_name t (left_arms arms)) ≡ true)
    go true None h e = cc
    go true (Some q) h e =
        let same : to_arm from a (far side a b) q ≡ r = cc in
        (a, q.1, sym (ap (λ z. z.1) same), ap (λ z. z || has_name a (left_arms arms)) (bytes_eq-refl a))
    go false o h e = let s = h e in (s.0, s.1, s.2, or_second (bytes_eq s.0 a) (has_name s.0 (left_arms arms)) s.3)

-- a tag of the arms is not one that they do not have
other-tag : (a t : List ℕ) (ns : List (List ℕ)) → has_name a ns ≡ false → has_name t ns ≡ true → bytes_eq a t ≡ false
other-tag a t ns e f = go (bytes_eq a t) refl
  where
    go : (x : Bool) → bytes_eq a t ≡ x → x ≡ false
    go false g = refl
    go true g = sym f ∙ ap (λ z. has_name z ns) (sym ((bytes_eq-Decides a t).0 g)) ∙ e

distinct-parts : (x y : Bool) → (not x && y) ≡ true → (x ≡ false) × (y ≡ true)
distinct-parts true y e = cc
distinct-parts false y e = (refl, e)

switch-two : (arms : ArmTrees) → ArmsKeepEquations arms → are_distinct (left_arms arms) ≡ true → (side : Side) (from n : List ℕ) (u v : WordTree)
    → in_normal_form (translate_switch arms side from n (joined u v)) ≡ in_normal_form (in_order (translate_switch arms side from n u) (λ d. stay_at arms side n v d))
switch-two no_arms h k side from n u v = refl
switch-two (more_arms a b l arms) h k side from n u v =
    let apart = distinct-parts (has_name a (left_arms arms)) (are_distinct (left_arms arms)) k in
    go apart.0 (bytes_eq (near side a b) n) refl (switch-two arms h.1 apart.1 side from n u v)
  where
    later : has_name a (left_arms arms) ≡ false → (r : Translated) → translate_switch arms side from n u ≡ Some r → stay_at arms side n v r.1 ≡ stay_at (more_arms a b l arms) side n v r.1
    later e r i =
        let s = switch-tag arms side from n u r i in
        subst (λ d. stay_at arms side n v d ≡ stay_at (more_arms a b l arms) side n v d) (sym s.2) (rw (other-tag a s.0 (left_arms arms) e s.3) refl)

    go : has_name a (left_arms arms) ≡ false → (y : Bool) → bytes_eq (near side a b) n ≡ y
        → in_normal_form (translate_switch arms side from n (joined u v)) ≡ in_normal_form (in_order (translate_switch arms side from n u) (λ d. stay_at arms side n v d))
        → in_normal_form (cond y (option_map (to_arm from a (far side a b)) (one_by_one (translate_one l side) (missing l) (joined u v))) (translate_switch arms side from n (joined u v)))
        ≡ in_normal_form (in_order (cond y (option_map (to_arm from a (far side a b)) (one_by_one (translate_one l side) (missing l) u)) (translate_switch arms side from n u))
        (λ d. stay_at (more_arms a b l arms) side n v d))
    go e true f i =
        ap (λ o. in_normal_form (option_map (to_arm from a (far side a b)) o)) (in_parts (translate_one l side) (missing l) u v)
        ∙ to_arm-order from a (far side a b) (one_by_one (translate_one l side) (missing l) u) (λ d. one_by_one (translate_one l side) d v) (λ d. stay_at (more_arms a b l arms) side n v d)
        (λ d. rw (bytes_eq-refl a, f) refl)
    go e false f i =
        i ∙ in_order-given (translate_switch arms side from n u) (translate_switch arms side from n u) (λ d. stay_at arms side n v d) (λ d. stay_at (more_arms a b l arms) side n v d) refl
        (λ r j. ap in_normal_form (later e r j))

-- ---- alternatives

alt-one : (arms : ArmTrees) → ArmsKeepEquations arms → (side : Side) (c : CompTree) (p : PrimitiveTree)
    → in_normal_form (translate_one (form_alt arms) side c (normalized_one p)) ≡ in_normal_form (translate_one (form_alt arms) side c p)
alt-one arms h side (alt_comp t c) (stay m u) = stay-same arms h side t c m (normalized u) u (normalized-again u)
alt-one arms h side (alt_comp t c) (switch m n u) = go (far_tag arms side t m)
  where
    go : (o : Option (List ℕ)) → in_normal_form (option_and_then (λ from. translate_switch arms side from n (normalized u)) o) ≡ in_normal_form (option_and_then (λ from. translate_switch arms side from n u) o)
    go None = refl
    go (Some from) = switch-same arms h side from n (normalized u) u (normalized-again u)
alt-one arms h side (alt_comp t c) (set a) = refl
alt-one arms h side (alt_comp t c) (add a) = refl
alt-one arms h side (alt_comp t c) (splice i k s) = refl
alt-one arms h side (alt_comp t c) (at f u) = refl
alt-one arms h side (alt_comp t c) (modify f u) = refl
alt-one arms h side (alt_comp t c) (shape a) = refl
alt-one arms h side _ p = refl

stay-is : (arms : ArmTrees) (side : Side) (m : List ℕ) (v : WordTree) (d : CompTree) → translate_one (form_alt arms) side d (stay m v) ≡ stay_at arms side m v d
stay-is arms side m v (alt_comp t c) = refl
stay-is arms side m v _ = refl

alt-stay : (arms : ArmTrees) → ArmsKeepEquations arms → (side : Side) (c : CompTree) (m : List ℕ) (u v : WordTree)
    → in_normal_form (translate_one (form_alt arms) side c (stay m (joined u v))) ≡ in_normal_form (in_order (translate_one (form_alt arms) side c (stay m u)) (λ d. translate_one (form_alt arms) side d (stay m v)))
alt-stay arms h side (alt_comp t c) m u v =
    stay-two arms h side t c m u v
    ∙ in_order-same (translate_stay arms side t c m u) (translate_stay arms side t c m u) (λ d. stay_at arms side m v d) (λ d. translate_one (form_alt arms) side d (stay m v)) refl
    (λ d. ap in_normal_form (sym (stay-is arms side m v d)))
alt-stay arms h side _ m u v = refl

alt-switch : (arms : ArmTrees) → ArmsKeepEquations arms → are_distinct (left_arms arms) ≡ true → (side : Side) (c : CompTree) (m n : List ℕ) (u v : WordTree)
    → in_normal_form (translate_one (form_alt arms) side c (switch m n (joined u v))) ≡ in_normal_form (in_order (translate_one (form_alt arms) side c (switch m n u)) (λ d. translate_one (form_alt arms) side d (stay n v)))
alt-switch arms h k side (alt_comp t c) m n u v = go (far_tag arms side t m)
  where
    go : (o : Option (List ℕ)) → in_normal_form (option_and_then (λ from. translate_switch arms side from n (joined u v)) o)
        ≡ in_normal_form (in_order (option_and_then (λ from. translate_switch arms side from n u) o) (λ d. translate_one (form_alt arms) side d (stay n v)))
    go None = refl
    go (Some from) =
        switch-two arms h k side from n u v
        ∙ in_order-same (translate_switch arms side from n u) (translate_switch arms side from n u) (λ d. stay_at arms side n v d) (λ d. translate_one (form_alt arms) side d (stay n v)) refl
        (λ d. ap in_normal_form (sym (stay-is arms side n v d)))
alt-switch arms h k side _ m n u v = refl

alt-none : (arms : ArmTrees) (side : Side) (c : CompTree) (p r : PrimitiveTree) (k : CompTree → Option Translated) → translate_one (form_alt arms) side c r ≡ None → translate_one (form_alt arms) side c p ≡ None
    → in_normal_form (translate_one (form_alt arms) side c r) ≡ in_normal_form (in_order (translate_one (form_alt arms) side c p) k)
alt-none arms side c p r k e f = rw (e, f) refl

no_at : (arms : ArmTrees) (side : Side) (c : CompTree) (f : List ℕ) (u : WordTree) → translate_one (form_alt arms) side c (at f u) ≡ None
no_at arms side (alt_comp t c) f u = refl
no_at arms side _ f u = refl

no_modify : (arms : ArmTrees) (side : Side) (c : CompTree) (x : Place) (u : WordTree) → translate_one (form_alt arms) side c (modify x u) ≡ None
no_modify arms side (alt_comp t c) x u = refl
no_modify arms side _ x u = refl

pub alternatives_keep : (arms : ArmTrees) → ArmsKeepEquations arms → are_distinct (left_arms arms) ≡ true → KeepsEquations (form_alt arms)
alternatives_keep arms h k = owed-form (form_alt arms) (λ side. record {
  ones = λ c p. alt-one arms h side c p;
  pairs = λ c p q r e. merge-cases
      (λ p q r. in_normal_form (translate_one (form_alt arms) side c r) ≡ in_normal_form (in_order (translate_one (form_alt arms) side c p) (λ d. translate_one (form_alt arms) side d q)))
      (λ f u v. alt-none arms side c (at f u) (at f (joined u v)) (λ d. translate_one (form_alt arms) side d (at f v)) (no_at arms side c f (joined u v)) (no_at arms side c f u))
      (λ m u v. alt-stay arms h side c m u v)
      (λ x u v. alt-none arms side c (modify x u) (modify x (joined u v)) (λ d. translate_one (form_alt arms) side d (modify x v)) (no_modify arms side c x (joined u v)) (no_modify arms side c x u))
      (λ m n u v. alt-switch arms h k side c m n u v)
      p q r e;
})
