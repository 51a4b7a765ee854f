-- Heights up to one more than the limit.
use Rattle.std.proofs.Common.{◌≡◌, ℕ, ◌+◌, true, false, List, refl, ap, ◌∙◌, arith}
use Rattle.std.specs.Prelude.{max, if◌then◌else◌}
use Rattle.texts.specs.Keys.{is_before}
use Rattle.doc_values.specs.Types.{TyTree, ty_rec, FieldTrees, no_fields, more_fields, height, highest}
use Rattle.lens_forms.specs.Forms.{ArmTrees, no_arms, more_arms, insert_field, sorted}
use Rattle.lens_forms.specs.Measures.{form_height, highest_arm}
use Rattle.lens_types.specs.Earlier.{alternatives_type, alternatives_form, partition}
use Rattle.lens_types.specs.Heights.{capped}

pub capped-next : (a : ℕ) → capped (capped a + 1) ≡ capped (a + 1)
capped-next a = omega arith

pub capped-max : (a b : ℕ) → max (capped a) (capped b) ≡ capped (max a b)
capped-max a b = omega arith

-- ---- a record is as high in written order as sorted

max_swap : (a b c : ℕ) → max a (max b c) ≡ max b (max a c)
max_swap a b c = omega arith

pub highest-insert : (n : List ℕ) (t : TyTree) (fs : FieldTrees) → highest (insert_field n t fs) ≡ max (height t) (highest fs)
highest-insert n t no_fields = refl
highest-insert n t (more_fields m u fs) =
    elim (is_before m n) as (λ b. highest (if b then more_fields m u (insert_field n t fs) else more_fields n t (more_fields m u fs)) ≡ max (height t) (max (height u) (highest fs)))
    [ true ↦ ap (max (height u)) (highest-insert n t fs) ∙ max_swap (height u) (height t) (highest fs) | false ↦ refl ]

pub highest-sorted : (fs : FieldTrees) → highest (sorted fs) ≡ highest fs
highest-sorted no_fields = refl
highest-sorted (more_fields n t fs) = highest-insert n t (sorted fs) ∙ ap (max (height t)) (highest-sorted fs)

pub height-record : (fs : FieldTrees) → height (ty_rec (sorted fs)) ≡ highest fs + 1
height-record fs = ap (λ k. k + 1) (highest-sorted fs)

-- ---- what stands for nothing is as high as it would be

pub height-alternatives_type : (fs : FieldTrees) → height (alternatives_type fs) ≡ highest fs + 1
height-alternatives_type no_fields = refl
height-alternatives_type (more_fields n t fs) = refl

pub height-alternatives : (arms : ArmTrees) → form_height (alternatives_form arms) ≡ highest_arm arms + 1
height-alternatives no_arms = refl
height-alternatives (more_arms a b l arms) = refl

pub height-partition : (fs : FieldTrees) → form_height (partition fs) ≡ 1
height-partition no_fields = refl
height-partition (more_fields n t fs) = refl

pub ruleset type_height_rules = (capped-next, capped-max, height-record, height-alternatives_type)

pub ruleset lens_height_rules = (capped-next, capped-max, height-alternatives, height-partition)

pub ruleset written_rules = (capped-max)
