-- The arm of a left tag, as the code looks it up, and what holds of its lens.
use Rattle.std.proofs.Common.{◌≡◌, ◌⊎◌, inl, inr, ℕ, ◌+◌, ◌<◌, ◌≤◌, Bool, true, false, not, cond, List, length, map, drop, drop-cons, get_or, add-one, Option, None, Some, IsTrue, refl, sym, ap, subst, arith}
use Rattle.std.specs.Prelude.{bytes_eq}
use Rattle.std.proofs.lemmas.List.{drop_all}
use Rattle.texts.specs.Keys.{has_name}
use Rattle.texts.proofs.Conjunction.{first, second}
use Rattle.doc_values.specs.Types.{are_distinct, are_choices}
use Rattle.doc_values.proofs.DistinctNames.{are_choices-distinct}
use Rattle.lens_forms.specs.Forms.{FormTree, form_alt, ArmTrees, no_arms, more_arms, form_arms_of, arm_tree, form_tree}
use Rattle.lens_forms.specs.Typing.{is_typed, are_typed_arms, left_arms}
use Rattle.lens_forms.specs.Measures.{form_parts, arms_parts}
use Rattle.lens_forms.specs.declared.form.Form.{Form}
use Rattle.lens_core.specs.Complements.{CompTree, alt_comp, Fits, FitsArm}
use Rattle.serde_json.specs.Data.{Data}
use Rattle.complement_file.specs.ComplementJson.{tree_of_complement, tree_in_arm, arm_with}
use Rattle.std.proofs.lemmas.Bool.{not-true}
use Rattle.texts.proofs.Tests.{bytes_eq-is, or_true}
use Rattle.texts.proofs.KeyOrder.{bytes_eq-refl}

-- ---- the arms one after the other

-- the lens that the arms from one on have
abbrev pub found_from : List (List ℕ × List ℕ × Form) → List ℕ → ℕ → Option FormTree
found_from arms t i = arm_with (form_arms_of (map arm_tree (drop i arms))) t

pub found_here : (arms : List (List ℕ × List ℕ × Form)) (t : List ℕ) (i : ℕ) (a : List ℕ × List ℕ × Form) → i < length arms → a ≡ get_or arms i a
    → bytes_eq a.0 t ≡ true → found_from arms t i ≡ Some (form_tree a.2)
found_here arms t i a h is e = rw (drop-cons arms i a h, sym is, e) refl

pub found_next : (arms : List (List ℕ × List ℕ × Form)) (t : List ℕ) (i : ℕ) (a : List ℕ × List ℕ × Form) → i < length arms → a ≡ get_or arms i a
    → bytes_eq a.0 t ≡ false → found_from arms t i ≡ found_from arms t (i + 1)
found_next arms t i a h is e = rw (drop-cons arms i a h, sym is, e, add-one i) refl

pub found_all : (arms : List (List ℕ × List ℕ × Form)) (t : List ℕ) (i : ℕ) → length arms ≤ i → found_from arms t i ≡ None
found_all arms t i h = rw (drop_all i arms h) refl

pub ruleset arm_rules = (found_here, found_next, found_all)

-- ---- the lens of a tag

same : {X : Type 0} {x y : X} → Some x ≡ Some y → x ≡ y
same e = cc

is_not : (t a : List ℕ) → t ≡ a → bytes_eq a t ≡ false → ⊥
is_not t a e h = let is : bytes_eq a t ≡ true = rw e (bytes_eq-refl a) in cc

-- an arm with the tag is found
there_step : (t a : List ℕ) (l : FormTree) (rest : Option FormTree) (c : CompTree) (Rest : Type 0) (k : Bool) → bytes_eq a t ≡ k → cond k (Some l) rest ≡ None
    → ((t ≡ a) × Fits l c) ⊎ Rest → (rest ≡ None → Rest → ⊥) → ⊥
there_step t a l rest c Rest true is e h again = cc
there_step t a l rest c Rest false is e (inl p) again = is_not t a p.0 is
there_step t a l rest c Rest false is e (inr p) again = again e p

there : (t : List ℕ) (arms : ArmTrees) (c : CompTree) → arm_with arms t ≡ None → FitsArm arms t c → ⊥
there t no_arms c e h = h
there t (more_arms a b l arms) c e h = there_step t a l (arm_with arms t) c (FitsArm arms t c) (bytes_eq a t) refl e h (λ n f. there t arms c n f)

-- what fits an arm with the tag shows that there is one
tag_is_there : (t : List ℕ) (arms : ArmTrees) (c : CompTree) → FitsArm arms t c → has_name t (left_arms arms) ≡ true
tag_is_there t no_arms c h = absurd h
tag_is_there t (more_arms a b l arms) c (inl p) = rw (p.0, bytes_eq-refl a) refl
tag_is_there t (more_arms a b l arms) c (inr p) = rw (tag_is_there t arms c p) (or_true (bytes_eq t a))

-- only the first arm with the tag fits, since the tags are distinct
fits_step : (t a : List ℕ) (names : List (List ℕ)) (l m : FormTree) (rest : Option FormTree) (c : CompTree) (Rest : Type 0) (k : Bool) → bytes_eq a t ≡ k → cond k (Some m) rest ≡ Some l
    → ((t ≡ a) × Fits m c) ⊎ Rest → has_name a names ≡ false → (Rest → has_name t names ≡ true) → (rest ≡ Some l → Rest → Fits l c) → Fits l c
fits_step t a names l m rest c Rest true is e (inl p) apart found again = subst (λ z. Fits z c) (same e) p.1
fits_step t a names l m rest c Rest true is e (inr p) apart found again =
    let some : has_name a names ≡ true = subst (λ n. has_name n names ≡ true) (sym (bytes_eq-is a t is)) (found p) in cc
fits_step t a names l m rest c Rest false is e (inl p) apart found again = absurd (is_not t a p.0 is)
fits_step t a names l m rest c Rest false is e (inr p) apart found again = again e p

fits : (t : List ℕ) (arms : ArmTrees) (c : CompTree) (l : FormTree) → are_distinct (left_arms arms) ≡ true → arm_with arms t ≡ Some l → FitsArm arms t c → Fits l c
fits t no_arms c l d e h = cc
fits t (more_arms a b m arms) c l d e h =
    fits_step t a (left_arms arms) l m (arm_with arms t) c (FitsArm arms t c) (bytes_eq a t) refl e h
    (not-true (has_name a (left_arms arms)) (first (not (has_name a (left_arms arms))) _ d)) (λ f. tag_is_there t arms c f)
    (λ s f. fits t arms c l (second (not (has_name a (left_arms arms))) _ d) s f)

-- what holds of the lens of each arm holds of the one that is found
pub found_step : (P : FormTree → Type 0) (l m : FormTree) (rest : Option FormTree) (k : Bool) → cond k (Some m) rest ≡ Some l → P m → (rest ≡ Some l → P l) → P l
found_step P l m rest true e here again = subst P (same e) here
found_step P l m rest false e here again = again e

typed : (t : List ℕ) (arms : ArmTrees) (l : FormTree) → are_typed_arms arms ≡ true → arm_with arms t ≡ Some l → is_typed l ≡ true
typed t no_arms l d e = cc
typed t (more_arms a b m arms) l d e =
    found_step (λ z. is_typed z ≡ true) l m (arm_with arms t) (bytes_eq a t) e (first (is_typed m) _ d) (λ s. typed t arms l (second (is_typed m) _ d) s)

pub arm_smaller : (t : List ℕ) (arms : ArmTrees) (l : FormTree) → arm_with arms t ≡ Some l → form_parts l < arms_parts arms
arm_smaller t no_arms l e = cc
arm_smaller t (more_arms a b m arms) l e =
    found_step (λ z. form_parts z < form_parts m + 1 + arms_parts arms) l m (arm_with arms t) (bytes_eq a t) e (omega arith) (λ s. omega (arith, arm_smaller t arms l s))

tree_step : (l m : FormTree) (c : CompTree) (rest : Option FormTree) (later : Data) (k : Bool) → cond k (Some m) rest ≡ Some l → (rest ≡ Some l → later ≡ tree_of_complement l c)
    → cond k (tree_of_complement m c) later ≡ tree_of_complement l c
tree_step l m c rest later true e again = ap (λ z. tree_of_complement z c) (same e)
tree_step l m c rest later false e again = again e

pub arm_tree_is : (t : List ℕ) (arms : ArmTrees) (l : FormTree) (c : CompTree) → arm_with arms t ≡ Some l → tree_in_arm arms t c ≡ tree_of_complement l c
arm_tree_is t no_arms l c e = cc
arm_tree_is t (more_arms a b m arms) l c e = tree_step l m c (arm_with arms t) (tree_in_arm arms t c) (bytes_eq a t) e (λ s. arm_tree_is t arms l c s)

pub arm_is_there : (arms : ArmTrees) (t : List ℕ) (c : CompTree) → Fits (form_alt arms) (alt_comp t c) → arm_with arms t ≡ None → ⊥
arm_is_there arms t c h e = there t arms c e h

pub arm_fits : (arms : ArmTrees) (t : List ℕ) (c : CompTree) (l : FormTree) → IsTrue (is_typed (form_alt arms)) → Fits (form_alt arms) (alt_comp t c) → arm_with arms t ≡ Some l → Fits l c
arm_fits arms t c l d h e =
    fits t arms c l (are_choices-distinct (left_arms arms) (first (are_choices (left_arms arms)) _ (second (are_typed_arms arms) _ d))) e h

pub arm_typed : (arms : ArmTrees) (t : List ℕ) (l : FormTree) → IsTrue (is_typed (form_alt arms)) → arm_with arms t ≡ Some l → IsTrue (is_typed l)
arm_typed arms t l d e = typed t arms l (first (are_typed_arms arms) _ d) e
