-- The arms of alternatives, seen from the side that is edited: their tags, their types, and the contents that they relate.
use Rattle.std.proofs.Common.{◌≡◌, ◌||◌, ◌⊎◌, ◌∙◌, inl, inr, ℕ, Bool, true, false, List, Option, Some, refl}
use Rattle.std.specs.Prelude.{if◌then◌else◌, bytes_eq, cond, not}
use Rattle.texts.specs.declared.side.Side.{Side}
use Rattle.texts.specs.declared.side.Side.TheVariants.{Left, Right}
use Rattle.texts.specs.Sides.{other}
use Rattle.texts.specs.Keys.{has_name}
use Rattle.texts.proofs.Conjunction.{first, second}
use Rattle.doc_values.specs.Documents.{DocTree}
use Rattle.doc_values.specs.Types.{TyTree, FieldTrees, are_distinct}
use Rattle.doc_values.specs.Typing.{lookup_type}
use Rattle.lens_forms.specs.Forms.{FormTree, ArmTrees, no_arms, more_arms, left_type, left_tags, right_type, right_tags}
use Rattle.lens_forms.specs.Typing.{left_arms, right_arms}
use Rattle.lens_core.specs.Sides.{near, far, type_on}
use Rattle.lens_core.specs.Complements.{CompTree, FitsArm}
use Rattle.lens_core.specs.Consistency.{IsInArm}
use Rattle.lens_core.specs.Laws.{IsRelated}
use Rattle.lens_core.proofs.RecordFields.{lookup_type-more}
use Rattle.lens_core.proofs.LawsOfWords.{related_fits}
use Rattle.std.proofs.lemmas.Bool.{not-true}
use Rattle.texts.proofs.Tests.{or_second}
use Rattle.texts.proofs.KeyOrder.{bytes_eq-refl}

-- ---- the arms, seen from a side

abbrev pub arm_names : Side → ArmTrees → List (List ℕ)
arm_names Left arms = left_arms arms
arm_names Right arms = right_arms arms

abbrev pub tags_on : Side → ArmTrees → FieldTrees
tags_on Left arms = left_tags arms
tags_on Right arms = right_tags arms

abbrev pub AreApart : Side → ArmTrees → Type 0
AreApart s arms = are_distinct (arm_names s arms) ≡ true

-- the tags and contents of one arm, those of the edited side first
abbrev pub ArmIs : Side → ArmTrees → List ℕ → DocTree → List ℕ → CompTree → List ℕ → DocTree → Type 0
ArmIs s no_arms i v t c j w = ⊥
ArmIs s (more_arms a b l arms) i v t c j w = ((i ≡ near s a b) × (t ≡ a) × (j ≡ far s a b) × IsRelated l s v c w) ⊎ ArmIs s arms i v t c j w

pub arm_left : (arms : ArmTrees) (m : List ℕ) (x : DocTree) (t : List ℕ) (c : CompTree) (n : List ℕ) (y : DocTree) → IsInArm arms m x t c n y → ArmIs Left arms m x t c n y
arm_left no_arms m x t c n y h = h
arm_left (more_arms a b l arms) m x t c n y (inl h) = inl h
arm_left (more_arms a b l arms) m x t c n y (inr h) = inr (arm_left arms m x t c n y h)

pub arm_right : (arms : ArmTrees) (m : List ℕ) (x : DocTree) (t : List ℕ) (c : CompTree) (n : List ℕ) (y : DocTree) → IsInArm arms m x t c n y → ArmIs Right arms n y t c m x
arm_right no_arms m x t c n y h = h
arm_right (more_arms a b l arms) m x t c n y (inl h) = inl (h.2, h.1, h.0, h.3)
arm_right (more_arms a b l arms) m x t c n y (inr h) = inr (arm_right arms m x t c n y h)

pub from_left : (arms : ArmTrees) (m : List ℕ) (x : DocTree) (t : List ℕ) (c : CompTree) (n : List ℕ) (y : DocTree) → ArmIs Left arms m x t c n y → IsInArm arms m x t c n y
from_left no_arms m x t c n y h = h
from_left (more_arms a b l arms) m x t c n y (inl h) = inl h
from_left (more_arms a b l arms) m x t c n y (inr h) = inr (from_left arms m x t c n y h)

pub from_right : (arms : ArmTrees) (m : List ℕ) (x : DocTree) (t : List ℕ) (c : CompTree) (n : List ℕ) (y : DocTree) → ArmIs Right arms n y t c m x → IsInArm arms m x t c n y
from_right no_arms m x t c n y h = h
from_right (more_arms a b l arms) m x t c n y (inl h) = inl (h.2, h.1, h.0, h.3)
from_right (more_arms a b l arms) m x t c n y (inr h) = inr (from_right arms m x t c n y h)

-- ---- names

pub head_apart : (s : Side) (a b : List ℕ) (l : FormTree) (arms : ArmTrees) → AreApart s (more_arms a b l arms) → has_name (near s a b) (arm_names s arms) ≡ false
head_apart Left a b l arms h = not-true (has_name a (left_arms arms)) (first (not (has_name a (left_arms arms))) (are_distinct (left_arms arms)) h)
head_apart Right a b l arms h = not-true (has_name b (right_arms arms)) (first (not (has_name b (right_arms arms))) (are_distinct (right_arms arms)) h)

pub far_head_apart : (s : Side) (a b : List ℕ) (l : FormTree) (arms : ArmTrees) → AreApart (other s) (more_arms a b l arms) → has_name (far s a b) (arm_names (other s) arms) ≡ false
far_head_apart Left a b l arms h = head_apart Right a b l arms h
far_head_apart Right a b l arms h = head_apart Left a b l arms h

pub tail_apart : (s : Side) (a b : List ℕ) (l : FormTree) (arms : ArmTrees) → AreApart s (more_arms a b l arms) → AreApart s arms
tail_apart Left a b l arms h = second (not (has_name a (left_arms arms))) (are_distinct (left_arms arms)) h
tail_apart Right a b l arms h = second (not (has_name b (right_arms arms))) (are_distinct (right_arms arms)) h

pub far_tail_apart : (s : Side) (a b : List ℕ) (l : FormTree) (arms : ArmTrees) → AreApart (other s) (more_arms a b l arms) → AreApart (other s) arms
far_tail_apart Left a b l arms h = tail_apart Right a b l arms h
far_tail_apart Right a b l arms h = tail_apart Left a b l arms h

pub arm_name : (s : Side) (a b : List ℕ) (l : FormTree) (arms : ArmTrees) (n : List ℕ) → has_name n (arm_names s (more_arms a b l arms)) ≡ (bytes_eq n (near s a b) || has_name n (arm_names s arms))
arm_name Left a b l arms n = refl
arm_name Right a b l arms n = refl

pub far_arm_name : (s : Side) (a b : List ℕ) (l : FormTree) (arms : ArmTrees) (n : List ℕ) → has_name n (arm_names (other s) (more_arms a b l arms)) ≡ (bytes_eq n (far s a b) || has_name n (arm_names (other s) arms))
far_arm_name Left a b l arms n = refl
far_arm_name Right a b l arms n = refl

pub same_first : (n k : List ℕ) (b : Bool) → n ≡ k → (bytes_eq n k || b) ≡ true
same_first n k b e = rw (e, bytes_eq-refl k) refl

-- the tags of a consistent triple are tags of the arms
pub near_among : (s : Side) (arms : ArmTrees) (i : List ℕ) (v : DocTree) (t : List ℕ) (c : CompTree) (j : List ℕ) (w : DocTree) → ArmIs s arms i v t c j w → has_name i (arm_names s arms) ≡ true
near_among s no_arms i v t c j w h = absurd h
near_among s (more_arms a b l arms) i v t c j w (inl h) = arm_name s a b l arms i ∙ same_first i (near s a b) (has_name i (arm_names s arms)) h.0
near_among s (more_arms a b l arms) i v t c j w (inr h) = arm_name s a b l arms i ∙ or_second (bytes_eq i (near s a b)) (has_name i (arm_names s arms)) (near_among s arms i v t c j w h)

pub left_among : (s : Side) (arms : ArmTrees) (i : List ℕ) (v : DocTree) (t : List ℕ) (c : CompTree) (j : List ℕ) (w : DocTree) → ArmIs s arms i v t c j w → has_name t (left_arms arms) ≡ true
left_among s no_arms i v t c j w h = absurd h
left_among s (more_arms a b l arms) i v t c j w (inl h) = same_first t a (has_name t (left_arms arms)) h.1
left_among s (more_arms a b l arms) i v t c j w (inr h) = or_second (bytes_eq t a) (has_name t (left_arms arms)) (left_among s arms i v t c j w h)

pub arm_fits : (s : Side) (arms : ArmTrees) (i : List ℕ) (v : DocTree) (t : List ℕ) (c : CompTree) (j : List ℕ) (w : DocTree) → ArmIs s arms i v t c j w → FitsArm arms t c
arm_fits s no_arms i v t c j w h = absurd h
arm_fits s (more_arms a b l arms) i v t c j w (inl h) = inl (h.1, related_fits l s v c w h.3)
arm_fits s (more_arms a b l arms) i v t c j w (inr h) = inr (arm_fits s arms i v t c j w h)

-- ---- the types at tags

pub tag_type : (s : Side) (a b : List ℕ) (l : FormTree) (arms : ArmTrees) (n : List ℕ) → lookup_type (tags_on s (more_arms a b l arms)) n ≡ (if bytes_eq (near s a b) n then Some (type_on s l) else lookup_type (tags_on s arms) n)
tag_type Left a b l arms n = lookup_type-more a (left_type l) (left_tags arms) n
tag_type Right a b l arms n = lookup_type-more b (right_type l) (right_tags arms) n

pub far_tag_type : (s : Side) (a b : List ℕ) (l : FormTree) (arms : ArmTrees) (n : List ℕ) → lookup_type (tags_on (other s) (more_arms a b l arms)) n ≡ (if bytes_eq (far s a b) n then Some (type_on (other s) l) else lookup_type (tags_on (other s) arms) n)
far_tag_type Left a b l arms n = tag_type Right a b l arms n
far_tag_type Right a b l arms n = tag_type Left a b l arms n

pub first_type : (n : List ℕ) (t : TyTree) (o : Option TyTree) → cond (bytes_eq n n) (Some t) o ≡ Some t
first_type n t o = rw (bytes_eq-refl n) refl

pub later_type : (a n : List ℕ) (t : TyTree) (o : Option TyTree) (y : TyTree) → bytes_eq a n ≡ false → o ≡ Some y → cond (bytes_eq a n) (Some t) o ≡ Some y
later_type a n t o y h e = rw h e
